-- The two texts of the worked example are subscribes to the channel `a`.
use Rattle.std.proofs.Common.{inl, ℕ, List, [], ◌∷◌, refl, Ok, Some, drop}
use Rattle.std.specs.Prelude.{None, codes}
use Rattle.ch_base.specs.JsonTree.{Span, plain, string, object, Members, no_members, member}
use Rattle.ch_base.specs.JsonText.{Blanks, Value}
use Rattle.ch_base.specs.Grammar.{Byte, ◌then◌}
use Rattle.ch_base.specs.ObjectMembers.{IsObjectText}
use Rattle.ch_protocol.specs.ClientMessages.{IsEventText, SubscribeShape}
use Rattle.ch_protocol.specs.Readings.{Reading, Reads}
use Rattle.ch_protocol.specs.declared.client_message.ClientMessage.TheVariants.{Subscribe}
use Rattle.ch_outcomes.proofs.PlainTexts.{string_from, unescapes_from, distinct_two, first_of_two, second_of_two, one_alone, none_of_one, none_of_two}

abbrev at : ℕ → ℕ → Span
at m n = record { from = m; to = n }

-- a mark between two parts, before a byte that is no blank
mark : (b c : ℕ) (rest : List ℕ) → (Blanks then Byte b then Blanks) (b ∷ c ∷ rest) (c ∷ rest)
mark b c rest = (b ∷ c ∷ rest, inl refl, (c ∷ rest, refl, inl refl))

close : (rest : List ℕ) → (Blanks then Byte 125) (125 ∷ rest) rest
close rest = (125 ∷ rest, inl refl, refl)

-- ---- {"event":"pusher:subscribe","data":{"auth":"","channel":"a"}}

abbrev pub with_auth : List ℕ
with_auth = codes "{\"event\":\"pusher:subscribe\",\"data\":{\"auth\":\"\",\"channel\":\"a\"}}"

-- the text from a place on
abbrev with_auth_on : ℕ → List ℕ
with_auth_on n = drop n with_auth

abbrev with_auth_data : Members
with_auth_data = member (at 36 42) (plain string (at 43 45)) (member (at 46 55) (plain string (at 56 59)) no_members)

abbrev with_auth_members : Members
with_auth_members = member (at 1 8) (plain string (at 9 27)) (member (at 28 34) (object with_auth_data (at 35 60)) no_members)

with_auth_data_spelled : Value 61 63 (object with_auth_data (at 35 60)) (with_auth_on 35) (with_auth_on 60)
with_auth_data_spelled = (
  (refl, refl),
  (
    (with_auth_on 36),
    refl,
    (
      (with_auth_on 36),
      (with_auth_on 42),
      (with_auth_on 43),
      (with_auth_on 45),
      inl refl,
      ((refl, refl), string_from (codes "auth") (with_auth_on 42) refl),
      mark 58 34 (with_auth_on 44),
      ((refl, refl), string_from [] (with_auth_on 45) refl),
      ((with_auth_on 46), (with_auth_on 55), (with_auth_on 56), (with_auth_on 59), mark 44 34 (with_auth_on 47), ((refl, refl), string_from (codes "channel") (with_auth_on 55) refl), mark 58 34 (with_auth_on 57), ((refl, refl), string_from (codes "a") (with_auth_on 59) refl), close (with_auth_on 60)),
    ),
  ),
)

with_auth_spelled : IsObjectText with_auth with_auth_members
with_auth_spelled = (
  at 0 61,
  (
    with_auth,
    [],
    inl refl,
    (
      (refl, refl),
      (
        (with_auth_on 1),
        refl,
        (
          (with_auth_on 1),
          (with_auth_on 8),
          (with_auth_on 9),
          (with_auth_on 27),
          inl refl,
          ((refl, refl), string_from (codes "event") (with_auth_on 8) refl),
          mark 58 34 (with_auth_on 10),
          ((refl, refl), string_from (codes "pusher:subscribe") (with_auth_on 27) refl),
          ((with_auth_on 28), (with_auth_on 34), (with_auth_on 35), (with_auth_on 60), mark 44 34 (with_auth_on 29), ((refl, refl), string_from (codes "data") (with_auth_on 34) refl), mark 58 123 (with_auth_on 36), with_auth_data_spelled, close []),
        ),
      ),
    ),
    refl,
  ),
)

with_auth_event : IsEventText with_auth with_auth_members (codes "pusher:subscribe")
with_auth_event = record {
  spelled = with_auth_spelled;
  distinct = distinct_two with_auth (at 1 8) (at 28 34) _ _ (codes "event") (codes "data") (unescapes_from (codes "event") refl) (unescapes_from (codes "data") refl) refl;
  event = (plain string (at 9 27), first_of_two with_auth (at 1 8) (at 28 34) _ _ (codes "event") (codes "data") (unescapes_from (codes "event") refl) (unescapes_from (codes "data") refl) refl, unescapes_from (codes "pusher:subscribe") refl);
}

with_auth_shape : SubscribeShape with_auth with_auth_members (Subscribe (codes "a") (Some []) None)
with_auth_shape = (
  with_auth_data,
  (at 35 60, second_of_two with_auth (at 1 8) (at 28 34) _ _ (codes "event") (codes "data") (unescapes_from (codes "event") refl) (unescapes_from (codes "data") refl) refl),
  (plain string (at 56 59), second_of_two with_auth (at 36 42) (at 46 55) _ _ (codes "auth") (codes "channel") (unescapes_from (codes "auth") refl) (unescapes_from (codes "channel") refl) refl, unescapes_from (codes "a") refl),
  (plain string (at 43 45), first_of_two with_auth (at 36 42) (at 46 55) _ _ (codes "auth") (codes "channel") (unescapes_from (codes "auth") refl) (unescapes_from (codes "channel") refl) refl, unescapes_from [] refl),
  inl (none_of_two with_auth (at 36 42) (at 46 55) _ _ (codes "auth") (codes "channel") (codes "channel_data") (unescapes_from (codes "auth") refl) (unescapes_from (codes "channel") refl) refl refl),
)

abbrev pub with_auth_reading : Reading
with_auth_reading = record { verdict = Ok (Subscribe (codes "a") (Some []) None); member = None; user = None }

pub with_auth_reads : Reads with_auth with_auth_reading
with_auth_reads = record {
  says = inl (with_auth_members, codes "pusher:subscribe", with_auth_event, inl (Subscribe (codes "a") (Some []) None, with_auth_shape, refl));
  member = refl;
  user = refl;
}

-- ---- {"event":"pusher:subscribe","data":{"channel":"a"}}

abbrev pub without_auth : List ℕ
without_auth = codes "{\"event\":\"pusher:subscribe\",\"data\":{\"channel\":\"a\"}}"

-- the text from a place on
abbrev without_auth_on : ℕ → List ℕ
without_auth_on n = drop n without_auth

abbrev without_auth_data : Members
without_auth_data = member (at 36 45) (plain string (at 46 49)) no_members

abbrev without_auth_members : Members
without_auth_members = member (at 1 8) (plain string (at 9 27)) (member (at 28 34) (object without_auth_data (at 35 50)) no_members)

without_auth_data_spelled : Value 51 63 (object without_auth_data (at 35 50)) (without_auth_on 35) (without_auth_on 50)
without_auth_data_spelled = ((refl, refl), ((without_auth_on 36), refl, ((without_auth_on 36), (without_auth_on 45), (without_auth_on 46), (without_auth_on 49), inl refl, ((refl, refl), string_from (codes "channel") (without_auth_on 45) refl), mark 58 34 (without_auth_on 47), ((refl, refl), string_from (codes "a") (without_auth_on 49) refl), close (without_auth_on 50))))

without_auth_spelled : IsObjectText without_auth without_auth_members
without_auth_spelled = (
  at 0 51,
  (
    without_auth,
    [],
    inl refl,
    (
      (refl, refl),
      (
        (without_auth_on 1),
        refl,
        (
          (without_auth_on 1),
          (without_auth_on 8),
          (without_auth_on 9),
          (without_auth_on 27),
          inl refl,
          ((refl, refl), string_from (codes "event") (without_auth_on 8) refl),
          mark 58 34 (without_auth_on 10),
          ((refl, refl), string_from (codes "pusher:subscribe") (without_auth_on 27) refl),
          ((without_auth_on 28), (without_auth_on 34), (without_auth_on 35), (without_auth_on 50), mark 44 34 (without_auth_on 29), ((refl, refl), string_from (codes "data") (without_auth_on 34) refl), mark 58 123 (without_auth_on 36), without_auth_data_spelled, close []),
        ),
      ),
    ),
    refl,
  ),
)

without_auth_event : IsEventText without_auth without_auth_members (codes "pusher:subscribe")
without_auth_event = record {
  spelled = without_auth_spelled;
  distinct = distinct_two without_auth (at 1 8) (at 28 34) _ _ (codes "event") (codes "data") (unescapes_from (codes "event") refl) (unescapes_from (codes "data") refl) refl;
  event = (plain string (at 9 27), first_of_two without_auth (at 1 8) (at 28 34) _ _ (codes "event") (codes "data") (unescapes_from (codes "event") refl) (unescapes_from (codes "data") refl) refl, unescapes_from (codes "pusher:subscribe") refl);
}

without_auth_shape : SubscribeShape without_auth without_auth_members (Subscribe (codes "a") None None)
without_auth_shape = (
  without_auth_data,
  (at 35 50, second_of_two without_auth (at 1 8) (at 28 34) _ _ (codes "event") (codes "data") (unescapes_from (codes "event") refl) (unescapes_from (codes "data") refl) refl),
  (plain string (at 46 49), one_alone without_auth (at 36 45) _ (codes "channel") (unescapes_from (codes "channel") refl), unescapes_from (codes "a") refl),
  inl (none_of_one without_auth (at 36 45) _ (codes "channel") (codes "auth") (unescapes_from (codes "channel") refl) refl),
  inl (none_of_one without_auth (at 36 45) _ (codes "channel") (codes "channel_data") (unescapes_from (codes "channel") refl) refl),
)

abbrev pub without_auth_reading : Reading
without_auth_reading = record { verdict = Ok (Subscribe (codes "a") None None); member = None; user = None }

pub without_auth_reads : Reads without_auth without_auth_reading
without_auth_reads = record {
  says = inl (without_auth_members, codes "pusher:subscribe", without_auth_event, inl (Subscribe (codes "a") None None, without_auth_shape, refl));
  member = refl;
  user = refl;
}
