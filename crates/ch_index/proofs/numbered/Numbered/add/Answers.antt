use Rattle.std.proofs.Common.{◌≡◌, ℕ, List, None, ◌++◌, ◌∷◌, [], ◌∙◌, ap, sym, subst}
use Rattle.std.specs.Map.{keys_of, values_of, lookup}
use Rattle.std.specs.Ordering.{nat_cmp}
use Rattle.std.specs.Cmp.Lexicographic.{slice_cmp}
use Rattle.std.specs.BTreeMap.{is_at}
use Rattle.std.proofs.lemmas.List.{map-append}
use Rattle.ch_index.specs.Rows.{EachOnce}
use Rattle.ch_index.specs.Numbered.{AreBelow, marks_at, number_of}
use Rattle.ch_index.proofs.Once.{EachOnce-push, no_row}
use Rattle.ch_index.proofs.Adding.{insert_above, put_name, put_socket}
use Rattle.ch_index.proofs.Undoing.{untake_name, untake_socket}
use Rattle.ch_index.proofs.numbered.Numbered.add.Goals as goal

pub invariant_of-self-in-Err : goal.invariant_of-self-in-Err
invariant_of-self-in-Err g c =
    let name = g.R.Row.name in
    let socket = g.R.Row.socket in
    let mark = g.R.Row.mark in
    let n = c.args.number in
    let r = c.args.row in
    let es = c.self.inside.rows.entries in
    let below : AreBelow n (keys_of es) = subst (λ (fs : List (ℕ × g.row.R.Denot)). AreBelow n (keys_of fs)) (sym c.self.view_is) c.requires.above in
    record {
      rising = c.self.invariant.rising;
      once = c.self.invariant.once;
      by_name = λ d. untake_name name mark c.put.new.self.maps c.take.new.self.maps es n r c.in_ok-name.name d (c.in_ok-name.ensures ∙ c.name.ensures)
          (λ d. put_name name mark c.self.inside.by_name.maps c.put.new.self.maps es n r c.mark.result c.in_ok-key.key d (c.in_ok-key.ensures ∙ c.name-2.ensures) c.mark.ensures c.self.invariant.by_name below (c.in_ok-put.ensures.ok d))
          below (c.take.ensures.entries d);
      by_socket = λ s d. ap (lookup (is_at (slice_cmp nat_cmp d))) (c.in-Err.ensures.err s) ∙ c.self.invariant.by_socket s d;
    }

pub invariant_of-self-in-Ok-insert : goal.invariant_of-self-in-Ok-insert
invariant_of-self-in-Ok-insert g c =
    let name = g.R.Row.name in
    let socket = g.R.Row.socket in
    let mark = g.R.Row.mark in
    let n = c.args.number in
    let r = c.args.row in
    let es : List (ℕ × g.row.R.Denot) = c.self.inside.rows.entries in
    let last : List (ℕ × g.row.R.Denot) = (n, r) ∷ [] in
    let below : AreBelow n (keys_of es) = subst (λ (fs : List (ℕ × g.row.R.Denot)). AreBelow n (keys_of fs)) (sym c.self.view_is) c.requires.above in
    let absent : number_of name socket es (socket r) (name r) ≡ None = ap (λ (fs : List (ℕ × g.row.R.Denot)). number_of name socket fs (socket r) (name r)) c.self.view_is ∙ c.requires.absent in
    let now : c.insert.new.self.entries ≡ es ++ last = c.in-Ok-insert.ensures.entries ∙ insert_above n r es below in
    record {
      rising = c.insert.ensures.ordered;
      once = subst (EachOnce name socket) (sym (ap values_of now ∙ map-append (λ (e : ℕ × g.row.R.Denot). e.1) es last)) (EachOnce-push name socket (values_of es) r (no_row name socket es (socket r) (name r) absent) c.self.invariant.once);
      by_name = λ d. put_name name mark c.self.inside.by_name.maps c.put.new.self.maps es n r c.mark.result c.in_ok-key.key d (c.in_ok-key.ensures ∙ c.name-2.ensures) c.mark.ensures c.self.invariant.by_name below (c.in_ok-put.ensures.ok d)
          ∙ sym (ap (λ (fs : List (ℕ × g.row.R.Denot)). marks_at name mark fs d) now);
      by_socket = λ s d. put_socket name socket c.self.inside.by_socket.maps c.put-2.new.self.maps es n r c.socket-socket.result s c.in_ok-socket_key.socket_key d c.socket-socket.ensures (c.in_ok-socket_key.ensures ∙ c.name-4.ensures) c.self.invariant.by_socket absent (c.in-Ok.ensures.found s d)
          ∙ sym (ap (λ (fs : List (ℕ × g.row.R.Denot)). number_of name socket fs s d) now);
    }

pub returns-in-Ok-insert-clause-ok : goal.returns-in-Ok-insert-clause-ok
returns-in-Ok-insert-clause-ok g c =
    let n = c.args.number in
    let es : List (ℕ × g.row.R.Denot) = c.self.inside.rows.entries in
    let below : AreBelow n (keys_of es) = subst (λ (fs : List (ℕ × g.row.R.Denot)). AreBelow n (keys_of fs)) (sym c.self.view_is) c.requires.above in
    c.in-Ok-insert.ensures.entries ∙ insert_above n c.args.row es below ∙ ap (λ (fs : List (ℕ × g.row.R.Denot)). fs ++ (n, c.args.row) ∷ []) c.self.view_is

pub invariant_of-self-in-Err-insert : goal.invariant_of-self-in-Err-insert
invariant_of-self-in-Err-insert g c =
    let name = g.R.Row.name in
    let socket = g.R.Row.socket in
    let mark = g.R.Row.mark in
    let n = c.args.number in
    let r = c.args.row in
    let es : List (ℕ × g.row.R.Denot) = c.self.inside.rows.entries in
    let below : AreBelow n (keys_of es) = subst (λ (fs : List (ℕ × g.row.R.Denot)). AreBelow n (keys_of fs)) (sym c.self.view_is) c.requires.above in
    let absent : number_of name socket es (socket r) (name r) ≡ None = ap (λ (fs : List (ℕ × g.row.R.Denot)). number_of name socket fs (socket r) (name r)) c.self.view_is ∙ c.requires.absent in
    let now : c.insert.new.self.entries ≡ es = c.in-Err-insert.ensures.err in
    let its = c.in_ok-name.ensures ∙ c.name.ensures in
    record {
      rising = c.insert.ensures.ordered;
      once = subst (λ (fs : List (ℕ × g.row.R.Denot)). EachOnce name socket (values_of fs)) (sym now) c.self.invariant.once;
      by_name = λ d. untake_name name mark c.put.new.self.maps c.take-in-Err-insert.new.self.maps es n r c.in_ok-name.name d its
          (λ d. put_name name mark c.self.inside.by_name.maps c.put.new.self.maps es n r c.mark.result c.in_ok-key.key d (c.in_ok-key.ensures ∙ c.name-2.ensures) c.mark.ensures c.self.invariant.by_name below (c.in_ok-put.ensures.ok d))
          below (c.take-in-Err-insert.ensures.entries d)
          ∙ sym (ap (λ (fs : List (ℕ × g.row.R.Denot)). marks_at name mark fs d) now);
      by_socket = λ s d. untake_socket name socket c.put-2.new.self.maps c.take-in-Err-insert-2.new.self.maps es n r c.socket-socket.result s c.in_ok-name.name d c.socket-socket.ensures its
          (λ s d. put_socket name socket c.self.inside.by_socket.maps c.put-2.new.self.maps es n r c.socket-socket.result s c.in_ok-socket_key.socket_key d c.socket-socket.ensures (c.in_ok-socket_key.ensures ∙ c.name-4.ensures) c.self.invariant.by_socket absent (c.in-Ok.ensures.found s d))
          absent (c.take-in-Err-insert-2.ensures.found s d)
          ∙ sym (ap (λ (fs : List (ℕ × g.row.R.Denot)). number_of name socket fs s d) now);
    }
