-- A shard's history has no event of a channel that has its place on another shard.
use Rattle.std.proofs.Common.{◌≡◌, ◌≢◌, ℕ, ◌==◌, Bool, true, false, cond, List, [], ◌∷◌, ◌++◌, Option, Some, None, bytes_eq, refl, ap, ap₂, sym, ◌∙◌}
use Rattle.std.specs.List.{filter, list_any}
use Rattle.std.specs.Option.{option_to_list}
use Rattle.std.proofs.lemmas.List.Elements.{filter_map-append}
use Rattle.ch_base.specs.Growth.{entry}
use Rattle.ch_base.specs.declared.channel.ChanAnswer.{ChanAnswer}
use Rattle.ch_base.specs.declared.channel.ChanCall.{ChanCall}
use Rattle.ch_base.specs.declared.channel.ChanCall.TheVariants.{Join, Leave, Lost, Publish, Say, Take, TakeHooks, Names, Look, Users}
use Rattle.ch_base.specs.declared.webhook.Hook.{Hook}
use Rattle.ch_history.specs.Entries.{ChanEntry, ChanHistory}
use Rattle.ch_history.specs.Laws.{occupancy}
use Rattle.ch_history.specs.Placement.{BelongsTo, IsLegalAt, shard_of}
use Rattle.ch_history.specs.Subscriptions.{is_joined, on_channel, opened_by, subs}
use Rattle.ch_history.specs.Clock.{clock, clock_with}
use Rattle.ch_history.specs.Held.{held, hooks}
use Rattle.ch_history.specs.Pending.{hook_list}
use Rattle.ch_history.specs.Webhooks.{events_at}
use Rattle.ch_history.specs.declared.rows.HeldNotice.{HeldNotice}
use Rattle.ch_history.specs.declared.rows.Subscription.{Subscription}
use Rattle.ch_history.proofs.Change.{Change, change, ends, opens, same}
use Rattle.ch_history.proofs.Legal.{legal_induction}
pub use Rattle.ch_history.proofs.Held.{marks}
use Rattle.ch_history.proofs.Held.{held-of, made-of, marks_after, notices_after, notices_of}
use Rattle.ch_history.proofs.Occupancy.{marks-about}
use Rattle.ch_history.proofs.OpenRows.{opens_nothing}
use Rattle.ch_history.proofs.Placement.{IsLegalAt-front, IsLegalAt-last}
use Rattle.ch_history.proofs.Push.{held-push, hook_list-push}
use Rattle.ch_history.proofs.Subscriptions.{stays, subs-push}
use Rattle.ch_history.proofs.Texts.{same_text}

pub marks_both : (c : List ℕ) (xs ys : List Hook) → marks c (xs ++ ys) ≡ marks c xs ++ marks c ys
marks_both c xs ys = filter_map-append (occupancy c) xs ys

-- ---- no subscription to it

elsewhere : (j n : ℕ) (c d : List ℕ) → shard_of c n ≢ j → shard_of d n ≡ j → bytes_eq d c ≡ false
elsewhere j n c d away here =
    (elim (bytes_eq d c) as (λ b. bytes_eq d c ≡ b → b ≡ false) [
      | true ↦ (λ is. absurd (away (ap (λ (x : List ℕ). shard_of x n) (sym (same_text d c is)) ∙ here)))
      | false ↦ (λ is. refl)
    ]) refl

nothing_opened : (w : ℕ) (call : ChanCall) (a : ChanAnswer) (j n : ℕ) (c : List ℕ) → shard_of c n ≢ j → BelongsTo (j, n) call
    → on_channel (option_to_list (opened_by (entry w call a))) c ≡ []
nothing_opened w (Join socket d m at) a j n c away here =
    elim (is_joined a) as (λ b. on_channel (option_to_list (cond b (Some (record { channel = d; socket = socket; owner = w; member = m })) None)) c ≡ []) [
      | true ↦ ap (λ b. cond b (record { channel = d; socket = socket; owner = w; member = m } ∷ []) []) (elsewhere j n c d away here)
      | false ↦ refl
    ]
nothing_opened w (Leave socket d at) a j n c away here = ap (λ (o : Option Subscription). on_channel (option_to_list o) c) (opens_nothing (is_joined a))
nothing_opened w (Lost socket at) a j n c away here = ap (λ (o : Option Subscription). on_channel (option_to_list o) c) (opens_nothing (is_joined a))
nothing_opened w (Publish d event body except at) a j n c away here = ap (λ (o : Option Subscription). on_channel (option_to_list o) c) (opens_nothing (is_joined a))
nothing_opened w (Say socket d event body at) a j n c away here = ap (λ (o : Option Subscription). on_channel (option_to_list o) c) (opens_nothing (is_joined a))
nothing_opened w Take a j n c away here = ap (λ (o : Option Subscription). on_channel (option_to_list o) c) (opens_nothing (is_joined a))
nothing_opened w (TakeHooks at) a j n c away here = ap (λ (o : Option Subscription). on_channel (option_to_list o) c) (opens_nothing (is_joined a))
nothing_opened w (Names prefix) a j n c away here = ap (λ (o : Option Subscription). on_channel (option_to_list o) c) (opens_nothing (is_joined a))
nothing_opened w (Look d at) a j n c away here = ap (λ (o : Option Subscription). on_channel (option_to_list o) c) (opens_nothing (is_joined a))
nothing_opened w (Users d) a j n c away here = ap (λ (o : Option Subscription). on_channel (option_to_list o) c) (opens_nothing (is_joined a))

no_subs : (h : ChanHistory) (e : ChanEntry) (j n : ℕ) (c : List ℕ) → shard_of c n ≢ j → BelongsTo (j, n) e.call → subs h c ≡ [] → subs (h ++ e ∷ []) c ≡ []
no_subs h e j n c away here none =
    subs-push h e c ∙ ap₂ (λ (xs ys : List Subscription). filter (stays e) xs ++ ys) none (nothing_opened e.caller e.call e.answer j n c away here)

-- ---- no event of it

no_marks : (h : ChanHistory) (e : ChanEntry) (c : List ℕ) → subs h c ≡ [] → subs (h ++ e ∷ []) c ≡ [] → Change h e c → marks c (events_at h e) ≡ []
no_marks h e c none still (same stays made) = marks-about c (events_at h e) [] made
no_marks h e c none still (opens n after made) =
    let broken : [] ≡ n ∷ [] = sym still ∙ after ∙ ap (λ (xs : List Subscription). xs ++ n ∷ []) none in
    cc
no_marks h e c none still (ends socket there after made) =
    let broken : false ≡ true = sym (ap (λ (xs : List Subscription). list_any (λ s. s.socket == socket) xs) none) ∙ there in
    cc

pub record IsApart (c : List ℕ) (h : ChanHistory) : Type 0 where
  pub alone : subs h c ≡ []
  pub unheld : notices_of c (held h) ≡ []
  pub untold : marks c (hook_list h) ≡ []

pub none_elsewhere : (h : ChanHistory) (j n : ℕ) (c : List ℕ) → shard_of c n ≢ j → IsLegalAt (j, n) h → IsApart c h
none_elsewhere h j n c away placed =
    (legal_induction (λ g. IsLegalAt (j, n) g → IsApart c g)
    (λ at. record { alone = refl; unheld = refl; untold = refl })
    (λ g e ok follows so at.
    let before : IsApart c g = so (IsLegalAt-front (j, n) g (e ∷ []) at) in
    let still : subs (g ++ e ∷ []) c ≡ [] = no_subs g e j n c away (IsLegalAt-last (j, n) g e at) before.alone in
    let now : ℕ = clock_with (clock g) e.call in
    let silent : marks c (events_at g e) ≡ [] = no_marks g e c before.alone still (change g e.caller e.call e.answer c follows.answered) in
    record {
      alone = still;
      unheld = ap (notices_of c) (held-push g e) ∙ held-of c now (events_at g e) (held g) ∙ ap₂ (λ (said : List Bool) (its : List HeldNotice). notices_after c now said its) silent before.unheld;
      untold = ap (marks c) (hook_list-push g e) ∙ marks_both c (hook_list g) (hooks g e)
          ∙ ap₂ (λ (xs ys : List Bool). xs ++ ys) before.untold
          (made-of c now (events_at g e) (held g) ∙ ap₂ (λ (said : List Bool) (its : List HeldNotice). marks_after now said its) silent before.unheld);
    })
    h placed.legal) placed
