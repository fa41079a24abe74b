use Rattle.ch_names.specs.declared.socket_id.SocketId.TheVariants.{Stranger, Here}
use Rattle.ch_triggers.proofs.NamesOf.{bad_socket, good_socket}
use Rattle.ch_triggers.proofs.names.is_socket_id.Goals as goal

pub returns-in-Bad : goal.returns-in-Bad
returns-in-Bad c = bad_socket c.args.id.now c.in-Bad.ensures

pub returns-in-Stranger : goal.returns-in-Stranger
returns-in-Stranger c = good_socket c.args.id.now Stranger c.in-Stranger.ensures (λ e. absurd (cc))

pub returns-in-Here : goal.returns-in-Here
returns-in-Here c = good_socket c.args.id.now (Here c.in-Here.field-0) c.in-Here.ensures (λ e. absurd (cc))
