use Rattle.std.proofs.Common.{◌≡◌, ℕ, List, Some, ◌∙◌, ap, sym, subst}
use Rattle.std.specs.Map.{values_of, lookup, remove_entry}
use Rattle.std.specs.Ordering.{nat_cmp}
use Rattle.std.specs.BTreeMap.{is_at}
use Rattle.ch_index.specs.Rows.{EachOnce}
use Rattle.ch_index.specs.Numbered.{marks_at, number_of}
use Rattle.ch_index.proofs.Once.{EachOnce-remove}
use Rattle.ch_index.proofs.Ending.{Taken, number_found, taken, take_name, take_socket}
use Rattle.ch_index.proofs.numbered.Numbered.end.Goals as goal

pub invariant_of-self-2 : goal.invariant_of-self-2
invariant_of-self-2 g c =
    let name = g.R.Row.name in
    let socket = g.R.Row.socket in
    let mark = g.R.Row.mark in
    let n = c.args.number in
    let es : List (ℕ × g.row.R.Denot) = c.self.inside.rows.entries in
    let left : List (ℕ × g.row.R.Denot) = remove_entry (is_at (nat_cmp n)) es in
    let r = c.in-Some.row in
    let found : lookup (is_at (nat_cmp n)) es ≡ Some r = sym c.in-Some.ensures.value in
    let gone : Taken name socket mark es n (socket r) (name r) = taken name socket mark es n (socket r) (name r) c.self.invariant.rising c.self.invariant.once (number_found name socket n es r c.self.invariant.once found) in
    let now : c.remove.new.self.entries ≡ left = c.remove.ensures.entries in
    record {
      rising = c.remove.ensures.ordered;
      once = subst (λ (fs : List (ℕ × g.row.R.Denot)). EachOnce name socket (values_of fs)) (sym now) (EachOnce-remove name socket (is_at (nat_cmp n)) es c.self.invariant.once);
      by_name = λ d. take_name name socket mark c.self.inside.by_name.maps c.take.new.self.maps es n (socket r) c.name.result.now d (subst (Taken name socket mark es n (socket r)) (sym c.name.ensures) gone) c.self.invariant.by_name (c.take.ensures.entries d)
          ∙ sym (ap (λ (fs : List (ℕ × g.row.R.Denot)). marks_at name mark fs d) now);
      by_socket = λ s d. take_socket name socket mark c.self.inside.by_socket.maps c.take-2.new.self.maps es n c.socket.result s c.name-2.result.now d (subst (λ t. Taken name socket mark es n t c.name-2.result.now) (sym c.socket.ensures) (subst (Taken name socket mark es n (socket r)) (sym c.name-2.ensures) gone)) c.self.invariant.by_socket (c.take-2.ensures.found s d)
          ∙ sym (ap (λ (fs : List (ℕ × g.row.R.Denot)). number_of name socket fs s d) now);
    }
