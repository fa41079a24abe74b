use Rattle.ch_net.proofs.Utf8.{text_of, binary_of}
use Rattle.ch_net.proofs.messages.message.Goals as goal

pub returns-in_ok-of-in-Ok : goal.returns-in_ok-of-in-Ok
returns-in_ok-of-in-Ok c = text_of c.args.line.now c.in-Ok.text.now c.in_ok-of-in-Ok.field-0 c.in_ok-of-in-Ok.ensures c.in-Ok.ensures.cases.0 c.in-Ok.ensures.cases.1

pub returns-in-Err : goal.returns-in-Err
returns-in-Err c = binary_of c.args.line.now c.in-Err.ensures.cases.0
