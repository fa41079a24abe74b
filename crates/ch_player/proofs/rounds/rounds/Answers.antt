use Rattle.std.proofs.Common.{◌≡◌, ◌+◌, ◌-◌, ◌∙◌, suc, true, false, refl, subst, arith, length}
use Rattle.ch_transcript.specs.Rounds.{rounds}
use Rattle.ch_player.specs.Rounding.{RunsRound}
use Rattle.ch_player.proofs.Roundings.{Running, Running-first, Running-next, RunsRounds-last}
use Rattle.ch_player.proofs.rounds.rounds.Goals as goal

pub loop-round-init : goal.loop-round-init
loop-round-init c = record {
  count = refl;
  shards = c.requires.shards;
  ready = c.requires.ready;
  opens = c.requires.«open»;
  running = λ sockets shards are at.
      let left = length c.args.seats.now.items + 1 - 0 in
      Running-first left c.args.config.now c.args.at c.args.bench.now c.args.seats.now.items c.args.out.now.items sockets shards (omega (arith, are.count)) are at;
}

pub returns-then-not-ended-clause-runs : goal.returns-then-not-ended-clause-runs
returns-then-not-ended-clause-runs c = λ sockets shards are here.
    let config = c.args.config.now in
    let at = c.args.at in
    let all = rounds (length sockets + 1) config at sockets shards in
    let most = length c.args.seats.now.items in
    let n = most + 1 - (c.loop-round._round + 1) in
    let left : most + 1 - c.loop-round._round ≡ suc n = omega (arith, c.loop-round-test.true, c.len-round-end.ensures) in
    let before = c.loop-round.seats.items in
    let old = c.args.out.now.items in
    let mid = c.loop-round.out.items in
    let now = c.run_round.new.seats.items in
    let new = c.run_round.new.out.items in
    let bench = c.run_round.new.bench in
    let run = subst (λ k. Running k config at c.loop-round.bench before old mid all) left (c.loop-round.invariant.running sockets shards are here) in
    let none : c.in_ok-ended.ended ≡ false = c.if-not-ended.true in
    RunsRounds-last n config at bench c.loop-round.bench now before old mid new all run
    (subst (RunsRound config at bench now mid new run.sockets run.shards) none (c.in_ok-ended.ensures.runs run.sockets run.shards run.seats run.at_shards))

pub loop-round-preserved : goal.loop-round-preserved
loop-round-preserved c = record {
  count = c.in_ok-ended.ensures.count ∙ c.loop-round.invariant.count;
  shards = c.in_ok-ended.ensures.shards;
  ready = c.in_ok-ended.ensures.ready;
  opens = c.in_ok-ended.ensures.«open»;
  running = λ sockets shards are here.
      let config = c.args.config.now in
      let at = c.args.at in
      let all = rounds (length sockets + 1) config at sockets shards in
      let most = length c.args.seats.now.items in
      let n = most + 1 - (c.loop-round._round + 1) in
      let left : most + 1 - c.loop-round._round ≡ suc n = omega (arith, c.loop-round-test.true, c.len-round-end.ensures) in
      let before = c.loop-round.seats.items in
      let old = c.args.out.now.items in
      let mid = c.loop-round.out.items in
      let now = c.run_round.new.seats.items in
      let new = c.run_round.new.out.items in
      let bench = c.run_round.new.bench in
      let run = subst (λ k. Running k config at c.loop-round.bench before old mid all) left (c.loop-round.invariant.running sockets shards are here) in
      let some : c.in_ok-ended.ended ≡ true = c.if-not-ended.false in
      Running-next n config at bench c.loop-round.bench now before old mid new all run
      (subst (RunsRound config at bench now mid new run.sockets run.shards) some (c.in_ok-ended.ensures.runs run.sockets run.shards run.seats run.at_shards));
}
