use Rattle.std.proofs.Common.{arith, refl, sym, subst, ◌∷◌, ◌+◌, suc}
use Rattle.ch_base.specs.JsonTree as tree
use Rattle.ch_json.specs.Machine as spec
use Rattle.ch_json.specs.Machine.{step, start, after_step, span, in_array, in_object, onto, onto_members}
use Rattle.ch_json.specs.ReaderView.{Follows}
use Rattle.ch_json.proofs.Follow as follow
use Rattle.ch_json.proofs.reader.Reader.after_item.Goals as goal

pub returns-in_ok-push-in-44-2 : goal.returns-in_ok-push-in-44-2
unfolding after_step
returns-in_ok-push-in-44-2 c = λ v vs room fs open_ so_far shows not_blank. (
  spec.value,
  room,
  in_array c.args.from (tree.item v vs) ∷ fs,
  rw c.in-44.is refl,
  record { mode = refl; brackets = follow.push_array c.args.self.now _ _ c.args.from (tree.item v vs) room fs refl c.in_ok-push-in-44-2.ensures.items (refl, (c.args.items.items, c.args.node, c.in_ok-push-in-44.ensures.items, shows, so_far)) open_ },
)

pub returns-in_ok-push-in-93 : goal.returns-in_ok-push-in-93
unfolding after_step
returns-in_ok-push-in-93 c = λ v vs room fs open_ so_far shows not_blank.
    let s = span c.args.from (c.args.at + 1) in
    subst (λ y. Follows c.args.at c.made.result c.made.new.self (after_step v room (in_array c.args.from vs ∷ fs) c.args.at y)) (sym c.in-93.is)
    (c.made.ensures (tree.array (onto vs (tree.item v tree.no_items)) s) (suc room) fs (follow.close_bracket c.args.self.now room fs open_)
    (follow.array_done c.args.self.now _ c.args.items.items c.args.node vs v s c.in_ok-push-in-93.ensures.items so_far shows))

pub returns-in_default : goal.returns-in_default
unfolding after_step
returns-in_default c = λ v vs room fs open_ so_far shows not_blank. (refl, grind arith)
