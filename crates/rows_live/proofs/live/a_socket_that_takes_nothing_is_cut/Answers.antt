use Rattle.rows_live.proofs.live.a_socket_that_takes_nothing_is_cut.Goals as goal

pub turn-turn-requires-clause-over : goal.turn-turn-requires-clause-over
turn-turn-requires-clause-over g c = c.pings_kept.ensures c.in_ok-config.config c.turn.ensures.over
