-- After a call on one shard, all else that a caller's desk shows is as before.
use Rattle.std.proofs.Common.{◌≡◌, ◌≢◌, ℕ, length, ap}
use Rattle.ch_desk.specs.Views.{StaysButChan, StaysButUser}
use Rattle.ch_house.specs.DeskViews.{house_names, view_of}
use Rattle.ch_house.specs.Houses.{PassesModel, seen, seen_user}

pub stays_but_chan : (k : ℕ) (old new : PassesModel) → new ≡ record old { chans = new.chans }
    → length new.chans ≡ length old.chans → ((j : ℕ) → j ≢ k → seen new j ≡ seen old j) → StaysButChan k (view_of old) (view_of new)
stays_but_chan k old new same shards elsewhere = record {
  same = record { house = ap (λ (p : PassesModel). house_names p.house) same; caller = ap (λ (p : PassesModel). p.caller) same; chan_shards = shards; user_shards = ap (λ (p : PassesModel). length p.users) same };
  chans = elsewhere;
  users = λ j. ap (λ (p : PassesModel). seen_user p j) same;
}

pub stays_but_user : (k : ℕ) (old new : PassesModel) → new ≡ record old { users = new.users }
    → length new.users ≡ length old.users → ((j : ℕ) → j ≢ k → seen_user new j ≡ seen_user old j) → StaysButUser k (view_of old) (view_of new)
stays_but_user k old new same shards elsewhere = record {
  same = record { house = ap (λ (p : PassesModel). house_names p.house) same; caller = ap (λ (p : PassesModel). p.caller) same; chan_shards = ap (λ (p : PassesModel). length p.chans) same; user_shards = shards };
  chans = λ j. ap (λ (p : PassesModel). seen p j) same;
  users = elsewhere;
}
