-- The data of an event.
use Rattle.std.proofs.Common.{◌≡◌, ℕ, List, length, refl, sym, ap, ◌∙◌, subst, Some}
use Rattle.std.specs.Prelude.{Option, None, codes}
use Rattle.ch_base.specs.JsonTree.{Span, Tree, plain, null, no, yes, number, string, array, object, Members}
use Rattle.ch_base.specs.JsonText.{Unescapes}
use Rattle.ch_base.specs.JsonParts.{part, spelled_at}
use Rattle.ch_base.specs.ObjectMembers.{HasOne, IsStringOf}
use Rattle.ch_members.specs.Readings.{Gives}
use Rattle.ch_members.proofs.MembersOfName.{one_value}
use Rattle.ch_triggers.specs.Contents.{IsContentOf, HasContent}
use Rattle.ch_triggers.specs.declared.content.Content.{Content}

string_form : (text : List ℕ) (v : Tree) (x : List ℕ) → IsStringOf text v x → (s : Span) × (v ≡ plain string s) × Unescapes (part text s) x
string_form text (plain null s) x h = absurd h
string_form text (plain no s) x h = absurd h
string_form text (plain yes s) x h = absurd h
string_form text (plain number s) x h = absurd h
string_form text (plain string s) x h = (s, refl, h)
string_form text (array vs s) x h = absurd h
string_form text (object ms s) x h = absurd h

pub content_is : (text : List ℕ) (v : Tree) (x : List ℕ) (c : Content) → IsStringOf text v x → c.body ≡ part text (spelled_at v) → c.size ≡ length x → IsContentOf text v c
content_is text v x c h e size = let k = string_form text v x h in (k.0, k.1, e ∙ ap (λ (y : Tree). part text (spelled_at y)) k.1, (x, k.2, size))

pub content_string : (text : List ℕ) (v : Tree) (c : Content) → IsContentOf text v c → (x : List ℕ) × IsStringOf text v x
content_string text v c (s, e, b, (x, u, size)) = (x, subst (λ (y : Tree). IsStringOf text y x) (sym e) u)

pub gives_content : (text : List ℕ) (ms : Members) (v : Tree) → HasOne text ms (codes "data") v → (o : Option Content) → Gives (IsContentOf text v) o → Gives (HasContent text ms) o
gives_content text ms v has (Some c) (s, e, b, k) = (s, subst (HasOne text ms (codes "data")) e has, b, k)
gives_content text ms v has None h = λ c k. h c (k.0, one_value text (codes "data") ms v (plain string k.0) has k.1, k.2, k.3)
