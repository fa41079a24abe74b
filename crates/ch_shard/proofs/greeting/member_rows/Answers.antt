use Rattle.std.proofs.Common.{◌≡◌, ◌∙◌, ◌+◌, ◌++◌, ◌∷◌, [], List, Some, None, ap, sym, length, take, slice_get, arith}
use Rattle.std.specs.Option.{option_copied}
use Rattle.std.proofs.lemmas.List.{take_all}
use Rattle.ch_base.specs.declared.channel.Member.{Member}
use Rattle.ch_presence.specs.Members.{rows_on}
use Rattle.ch_shard.proofs.Lists.{take-next}
use Rattle.ch_shard.proofs.UserLists.{inside, behind, length-push}
use Rattle.ch_shard.proofs.greeting.member_rows.Goals as goal

pub loop-member-preserved : goal.loop-member-preserved
loop-member-preserved c =
    let n = c.args.newcomer.now in
    let all : List Member = rows_on (c.args.presence.now.rows ++ n ∷ []) n.channel in
    let old : List Member = c.loop-member.rows in
    let m : Member = c.in-Some.member.now in
    let at : slice_get all (length old) ≡ Some m = ap (slice_get all) (sym c.len.ensures) ∙ sym c.row_with.ensures ∙ ap option_copied c.in-Some.is in
    let now : c.push.new.self ≡ old ++ m ∷ [] = c.in_ok-push.ensures.ok ∙ ap (λ x. old ++ x ∷ []) c.in_ok-copy.ensures in
    let more : length c.push.new.self ≡ length old + 1 = ap length now ∙ length-push old m in
    now
    ∙ ap (λ ms. ms ++ m ∷ []) c.loop-member.invariant
    ∙ sym (take-next all (length old) m at)
    ∙ ap (λ k. take k all) (sym more)

pub loop-member-smaller : goal.loop-member-smaller
loop-member-smaller c =
    let n = c.args.newcomer.now in
    let all : List Member = rows_on (c.args.presence.now.rows ++ n ∷ []) n.channel in
    let old : List Member = c.loop-member.rows in
    let m : Member = c.in-Some.member.now in
    let at : slice_get all (length old) ≡ Some m = ap (slice_get all) (sym c.len.ensures) ∙ sym c.row_with.ensures ∙ ap option_copied c.in-Some.is in
    let now : c.push.new.self ≡ old ++ m ∷ [] = c.in_ok-push.ensures.ok ∙ ap (λ x. old ++ x ∷ []) c.in_ok-copy.ensures in
    let more : length c.push.new.self ≡ length old + 1 = ap length now ∙ length-push old m in
    let below = inside all (length old) m at in
    omega (arith, below, more)

pub returns : goal.returns
returns c =
    let n = c.args.newcomer.now in
    let all : List Member = rows_on (c.args.presence.now.rows ++ n ∷ []) n.channel in
    let old : List Member = c.loop-member.rows in
    let none : slice_get all (length old) ≡ None = ap (slice_get all) (sym c.len.ensures) ∙ sym c.row_with.ensures ∙ ap option_copied c.in_default.is in
    c.loop-member.invariant ∙ take_all (length old) all (behind all (length old) none)
