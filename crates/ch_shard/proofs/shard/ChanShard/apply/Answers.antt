use Rattle.std.proofs.Common.{◌∙◌, ◌++◌, ◌∷◌, [], ap, subst, sym}
use Rattle.circular_buffer.specs.Buffer.{keep_last}
use Rattle.ch_base.specs.Growth.{entry}
use Rattle.ch_history.specs.Clock.{clock_with}
use Rattle.ch_history.proofs.Push.{clock-push}
use Rattle.ch_history.proofs.Occupancy.{occupancy_law}
use Rattle.ch_history.proofs.Membership.{membership_law}
use Rattle.ch_history.proofs.CacheNewcomer.{cache_newcomer_law}
use Rattle.ch_shard.specs.ShardState.{ShardState}
use Rattle.ch_shard.specs.Stands.{Stands}
use Rattle.ch_shard.specs.Tail.{brief_of}
use Rattle.ch_history.specs.declared.limits.TheConstants.{LONGEST_TAIL}
use Rattle.ch_shard.proofs.LastEntries.{tail-push}
use Rattle.ch_shard.proofs.shard.ChanShard.apply.Goals as goal

pub returns-clause-stands : goal.returns-clause-stands
returns-clause-stands c = λ h stands.
    let e = entry c.args.caller c.args.call.now c.in_ok-answer.answer in
    let P = λ (k : ShardState). Stands k h in
    let before = subst P (sym c.self.view_is) stands in
    let clocked = c.clock_with-now.ensures.clock ∙ ap (λ t. clock_with t c.args.call.now) before.clock in
    let after = c.in_ok-answer.ensures.stands h clocked before.parts in
    record {
      legal = after.legal;
      parts = after;
      tail = c.note.ensures ∙ ap (λ t. keep_last LONGEST_TAIL (t ++ brief_of e ∷ [])) before.tail ∙ tail-push h e;
      clock = clocked ∙ sym (clock-push h e);
    }

pub returns-clause-occupancy : goal.returns-clause-occupancy
returns-clause-occupancy c = λ h stands d. occupancy_law h stands.legal d

pub returns-clause-membership : goal.returns-clause-membership
returns-clause-membership c = λ h stands d id kind. membership_law h stands.legal d id kind

pub returns-clause-newcomers : goal.returns-clause-newcomers
returns-clause-newcomers c = λ h stands. cache_newcomer_law h stands.legal

pub returns-in_err-answer-clause-occupancy : goal.returns-in_err-answer-clause-occupancy
returns-in_err-answer-clause-occupancy c = λ h stands d. occupancy_law h stands.legal d

pub returns-in_err-answer-clause-membership : goal.returns-in_err-answer-clause-membership
returns-in_err-answer-clause-membership c = λ h stands d id kind. membership_law h stands.legal d id kind

pub returns-in_err-answer-clause-newcomers : goal.returns-in_err-answer-clause-newcomers
returns-in_err-answer-clause-newcomers c = λ h stands. cache_newcomer_law h stands.legal
