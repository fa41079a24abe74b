use Rattle.std.proofs.Common.{arith, refl, sym, subst, ◌∷◌, ◌+◌, map, suc}
use Rattle.ch_base.specs.JsonTree as tree
use Rattle.ch_json.specs.Machine as spec
use Rattle.ch_json.specs.Machine.{step, start, after_step, span, in_array, in_object, onto, onto_members}
use Rattle.ch_json.specs.Entries.{span_of, member_of}
use Rattle.ch_json.specs.ReaderView.{Follows}
use Rattle.ch_json.proofs.Follow as follow
use Rattle.ch_json.proofs.reader.Reader.after_member.Goals as goal

pub returns-in_ok-push-in-44 : goal.returns-in_ok-push-in-44
unfolding after_step
returns-in_ok-push-in-44 c = λ v ms room fs open_ so_far shows not_blank. (
  spec.next_key c.args.from (tree.member (span_of c.args.member.key) v ms),
  room,
  fs,
  rw c.in-44.is refl,
  record {
    mode = (tree.member (span_of c.args.member.key) v ms, refl, (map member_of c.args.members.items, c.args.member.value, follow.members_pushed _ c.args.members.items c.args.member c.in_ok-push-in-44.ensures.items, shows, so_far));
    brackets = open_;
  },
)

pub returns-in_ok-push-in-125 : goal.returns-in_ok-push-in-125
unfolding after_step
returns-in_ok-push-in-125 c = λ v ms room fs open_ so_far shows not_blank.
    let s = span c.args.from (c.args.at + 1) in
    let name = span_of c.args.member.key in
    subst (λ y. Follows c.args.at c.made.result c.made.new.self (after_step v room (in_object c.args.from ms name ∷ fs) c.args.at y)) (sym c.in-125.is)
    (c.made.ensures (tree.object (onto_members ms (tree.member name v tree.no_members)) s) (suc room) fs (follow.close_bracket c.args.self.now room fs open_)
    (follow.object_done c.args.self.now _ (map member_of c.args.members.items) name c.args.member.value ms v s (follow.members_pushed _ c.args.members.items c.args.member c.in_ok-push-in-125.ensures.items) so_far shows))

pub returns-in_default : goal.returns-in_default
unfolding after_step
returns-in_default c = λ v ms room fs open_ so_far shows not_blank. (refl, grind arith)
