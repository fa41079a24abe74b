use Rattle.std.proofs.Common.{refl}
use Rattle.std.proofs.lemmas.Result.{err_from_is_err_and}
use Rattle.ch_json.specs.Machine as spec
use Rattle.ch_json.specs.Machine.{step, start, after_step, span, in_array, in_object, onto, onto_members}
use Rattle.ch_json.proofs.Follow as follow
use Rattle.ch_json.proofs.reader.Reader.made.Goals as goal

pub returns-in_err-node : goal.returns-in_err-node
returns-in_err-node c = λ v room fs open_ adds.
    let p = err_from_is_err_and c.from_residual.result c.from_residual.ensures.1 in
    rw (p.1, p.2) (follow.added_err c.args.at _ c.push_node.new.self room fs v _ (c.in_err-node.ensures v room fs open_ adds))

pub returns : goal.returns
returns c = λ v room fs open_ adds. (spec.after v, room, fs, refl, follow.made_follows c.args.at _ room fs _ v (c.in_ok-node.ensures v room fs open_ adds))
