-- Which losses a live socket may make.
use Rattle.std.proofs.Common.{◌≡◌, ℕ, subst}
use Rattle.ch_desk.specs.Views.{DeskView}
use Rattle.ch_dispatch.specs.Losses.{IsOverDesk}
use Rattle.ch_live.specs.Connections.{Connected}
use Rattle.ch_live.specs.Losses.{MayLose}
use Rattle.ch_live.specs.Peers.{IsPeerOver}
use Rattle.ch_live.specs.declared.peer.Peer.{Peer}
use Rattle.ch_live.specs.declared.peer.Peer.TheVariants.{Open, Refused}

pub session_may : (p : Peer) (c : Connected) (desk : DeskView) → p ≡ Open c → MayLose p desk → IsOverDesk c.session desk
session_may p c desk is may = record { config = may.config; over = subst (λ x. IsPeerOver may.config x) is may.over; shards = may.shards }

pub peer_may : (c : Connected) (desk : DeskView) → IsOverDesk c.session desk → MayLose (Open c) desk
peer_may c desk over = record { config = over.config; over = over.over; shards = over.shards }

pub refused_may : (p : Peer) (code : ℕ) (desk : DeskView) → p ≡ Refused code → MayLose p desk → MayLose (Refused code) desk
refused_may p code desk is may = subst (λ x. MayLose x desk) is may
