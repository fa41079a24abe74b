use Rattle.std.proofs.Common.{◌≡◌, ℕ, List, Some, length, option_map, ◌∙◌, ap, sym, arith}
use Rattle.std.specs.Map.{values_of, lookup}
use Rattle.std.specs.Ordering.{nat_cmp}
use Rattle.std.specs.BTreeMap.{is_at}
use Rattle.ch_index.specs.Rows.{of_socket, without_all}
use Rattle.ch_index.proofs.Losing.{others_stay, one_less, all_stay}
use Rattle.ch_index.proofs.numbered.Numbered.lost.Goals as goal
use Rattle.ch_index.proofs.numbered.Numbered.lost.Goals.{in-Some, in-None}

pub loop-place-preserved : goal.loop-place-preserved
loop-place-preserved g c =
    let name = g.R.Row.name in
    let socket = g.R.Row.socket in
    let s = c.args.socket in
    let kept = λ (fs : List (ℕ × g.row.R.Denot)). without_all name socket (values_of fs) s in
    let own = λ (fs : List (ℕ × g.row.R.Denot)). length (of_socket name socket (values_of fs) s) in
    elim c.match-first_of.branch [
      | in-Some w ↦
          let t = is_at (nat_cmp w.in-Some.number) in
          let now = w.self-is ∙ w.end.ensures in
          let found : option_map socket (lookup t c.loop-place.self) ≡ Some s = w.in-Some.ensures.some in
          let less = one_less name socket t c.loop-place.self s found in
          let same = ap own now in
          (ap kept now ∙ others_stay name socket t c.loop-place.self s found ∙ c.loop-place.invariant.0, omega (arith, less, same, c.loop-place.invariant.1))
      | in-None w ↦
          let none = ap length w.in-None.ensures.none in
          absurd (omega (arith, none, c.loop-place.invariant.1, c.loop-place-test.true))
    ]

pub returns-clause-rows : goal.returns-clause-rows
returns-clause-rows g c =
    let none : length (of_socket g.R.Row.name g.R.Row.socket (values_of c.loop-place.self) c.args.socket) ≡ 0 = omega (arith, c.loop-place.invariant.1, c.loop-place-test.false) in
    sym (all_stay g.R.Row.name g.R.Row.socket (values_of c.loop-place.self) c.args.socket none) ∙ c.loop-place.invariant.0
