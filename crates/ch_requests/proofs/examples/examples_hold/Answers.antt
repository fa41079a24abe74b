use Rattle.ch_requests.proofs.Computed as shown
use Rattle.ch_requests.proofs.HandshakesComputed as shaken
use Rattle.ch_requests.proofs.examples.examples_hold.Goals as goal

pub returns-clause-routes : goal.returns-clause-routes
returns-clause-routes c = shown.routes

pub returns-clause-looks : goal.returns-clause-looks
returns-clause-looks c = shown.looks

pub returns-clause-bodies : goal.returns-clause-bodies
returns-clause-bodies c = shown.bodies

pub returns-clause-handshakes : goal.returns-clause-handshakes
returns-clause-handshakes c = shaken.handshakes
