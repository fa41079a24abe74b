use Rattle.std.proofs.Common.{◌≡◌, ℕ, List, [], Some, None, true, false, is_some, IfSome, IfNone, option_map, ◌∙◌, ap, refl, sym, subst}
use Rattle.std.specs.Option.{option_copied}
use Rattle.std.specs.List.Sorted.{IsStrictlySortedBy}
use Rattle.std.specs.Map.{keys_of, values_of, lookup}
use Rattle.std.specs.Ordering.{nat_cmp}
use Rattle.std.specs.BTreeMap.{is_at}
use Rattle.ch_history.specs.Texts.{has_text}
use Rattle.ch_index.specs.Nest.{inner}
use Rattle.ch_index.specs.Rows.{of_socket}
use Rattle.ch_index.specs.Numbered.{number_of}
use Rattle.ch_index.proofs.Reading.{names_are, has_key}
use Rattle.ch_index.proofs.Losing.{found_socket, no_names, first_key, no_first}
use Rattle.ch_index.proofs.numbered.Numbered.first_of.Goals as goal

pub returns-in-None-clause-none : goal.returns-in-None-clause-none
returns-in-None-clause-none g c =
    let es : List (ℕ × g.row.R.Denot) = c.self.inside.rows.entries in
    let s = c.args.socket in
    let ms = inner nat_cmp c.self.inside.by_socket.maps s in
    ap (λ (fs : List (ℕ × g.row.R.Denot)). of_socket g.R.Row.name g.R.Row.socket (values_of fs) s) (sym c.self.view_is)
    ∙ no_names g.R.Row.name g.R.Row.socket (of_socket g.R.Row.name g.R.Row.socket (values_of es) s)
    (sym (names_are g.R.Row.name g.R.Row.socket ms es s c.nth.ensures.ordered (c.self.invariant.by_socket s))
    ∙ no_first (keys_of ms) (sym c.nth.ensures.at ∙ ap option_copied c.in-None.is))

pub returns-in-Some-clause-some : goal.returns-in-Some-clause-some
returns-in-Some-clause-some g c =
    let s = c.args.socket in
    let P : List (ℕ × g.row.R.Denot) → Type 0 = λ fs. IsStrictlySortedBy nat_cmp (keys_of fs) in
    (elim c.number.result as (λ o. c.number.result ≡ o → IfSome o (λ n. option_map g.R.Row.socket (lookup (is_at (nat_cmp n)) c.args.self.now) ≡ Some s)) [
      | Some n ↦ (λ is. found_socket g.R.Row.name g.R.Row.socket c.args.self.now n s c.in-Some.name.now (subst P c.self.view_is c.self.invariant.rising) (sym c.number.ensures ∙ is))
      | None ↦ (λ is. tt)
    ]) refl

pub returns-in-Some-clause-none : goal.returns-in-Some-clause-none
returns-in-Some-clause-none g c =
    let s = c.args.socket in
    let x = c.in-Some.name.now in
    let ms = inner nat_cmp c.self.inside.by_socket.maps s in
    (elim c.number.result as (λ o. c.number.result ≡ o → IfNone o (of_socket g.R.Row.name g.R.Row.socket (values_of c.args.self.now) s ≡ [])) [
      | Some n ↦ (λ is. tt)
      | None ↦ (λ is.
          let there : has_text (keys_of ms) x ≡ true = first_key (keys_of ms) x (sym c.nth.ensures.at ∙ ap option_copied c.in-Some.is) in
          let none : number_of g.R.Row.name g.R.Row.socket c.self.inside.rows.entries s x ≡ None = ap (λ (fs : List (ℕ × g.row.R.Denot)). number_of g.R.Row.name g.R.Row.socket fs s x) c.self.view_is ∙ sym c.number.ensures ∙ is in
          let not_there : has_text (keys_of ms) x ≡ false = has_key ms x ∙ ap is_some (c.self.invariant.by_socket s x ∙ none) in
          absurd (let lie : true ≡ false = sym there ∙ not_there in cc))
    ]) refl
