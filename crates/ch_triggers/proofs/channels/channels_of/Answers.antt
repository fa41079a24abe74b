use Rattle.std.proofs.Common.{◌≡◌, ◌≤◌, ◌∙◌, length, true, sym, ap, arith}
use Rattle.std.specs.List.{list_all}
use Rattle.ch_base.specs.JsonParts.{items_of}
use Rattle.ch_base.specs.FirstPlaces.{first_places}
use Rattle.ch_history.specs.UserChannels.{is_subscribable}
use Rattle.ch_members.specs.ArrayStrings.{AreStrings}
use Rattle.ch_members.proofs.Gives.{gives_some, gives_none}
use Rattle.ch_members.proofs.OnlyOne.{strings_once}
use Rattle.ch_triggers.proofs.ChannelsOf.{channels_from, channels_strings, channels_good}
use Rattle.ch_triggers.proofs.channels.channels_of.Goals as goal

pub returns-in_default : goal.returns-in_default
returns-in_default c = λ vs is channels k.
    let text = c.args.text.now in
    gives_none (AreStrings text (items_of vs)) c.in_ok-names.field-0 (c.in_ok-names.ensures vs is) c.in_default.not-Some k.names (channels_strings text (items_of vs) k.names k.are)

pub returns-then-not-are_subscribable : goal.returns-then-not-are_subscribable
returns-then-not-are_subscribable c = λ vs is channels k.
    let text = c.args.text.now in
    let names = c.in-Some.names in
    let strings = gives_some (AreStrings text (items_of vs)) c.in_ok-names.field-0 names (c.in_ok-names.ensures vs is) c.in-Some.is in
    let same : k.names ≡ names = strings_once text (items_of vs) k.names names (channels_strings text (items_of vs) k.names k.are) strings in
    let good : list_all is_subscribable names ≡ true = ap (list_all is_subscribable) (sym same) ∙ channels_good text (items_of vs) k.names k.are in
    let found : c.are_subscribable.result ≡ list_all is_subscribable names = c.are_subscribable.ensures ∙ ap (list_all is_subscribable) c.as_slice.ensures in
    absurd (cc (good, found, c.if-not-are_subscribable.true))

pub returns : goal.returns
returns c = λ vs is.
    let text = c.args.text.now in
    let names = c.in-Some.names in
    let strings = gives_some (AreStrings text (items_of vs)) c.in_ok-names.field-0 names (c.in_ok-names.ensures vs is) c.in-Some.is in
    let good : list_all is_subscribable names ≡ true = sym (c.are_subscribable.ensures ∙ ap (list_all is_subscribable) c.as_slice.ensures) ∙ c.if-not-are_subscribable.false in
    let some : 1 ≤ length (items_of vs) = omega (arith, is.count, c.if-array-eq0.false) in
    let few : length (items_of vs) ≤ 100 = omega (arith, is.count, c.if-array-gt-MOST_CHANNELS.false) in
    record {
      some = some;
      few = few;
      names = names;
      are = channels_from text (items_of vs) names strings good;
      once = c.in_ok-channels.ensures ∙ ap first_places c.as_slice-2.ensures;
    }
