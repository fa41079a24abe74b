use Rattle.std.proofs.Common.{arith, refl, ◌≡◌, length}
use Rattle.ch_json.proofs.Follow as follow
use Rattle.ch_json.proofs.reader.Reader.push_node.Goals as goal

pub returns-in_err-push : goal.returns-in_err-push
returns-in_err-push c = λ v room fs open_ adds. follow.memory_adds c.from_residual.result _ room fs v c.from_residual.ensures.1

pub returns : goal.returns
returns c = λ v room fs open_ adds.
    let n : c.len-node.result ≡ length c.args.self.now.entries.items = omega arith in
    follow.newest c.args.self.now _ _ room fs c.len-node.result v n c.in_ok-push.ensures.items refl open_ adds
