-- Legal histories of a channel shard: their fronts, their last entry, and one entry more.
use Rattle.std.proofs.Common.{[], ◌∷◌, ◌++◌}
use Rattle.ch_history.specs.Entries.{ChanEntry, ChanHistory}
use Rattle.ch_history.specs.Legal.{Follows, IsLegal}
use Rattle.ch_history.proofs.Steps.{AllHold-push, AllHold-front, AllHold-last, history_induction}

-- a legal history goes on by an entry that may follow
pub IsLegal-push : (h : ChanHistory) (e : ChanEntry) → IsLegal h → Follows h e → IsLegal (h ++ e ∷ [])
IsLegal-push h e legal follows = AllHold-push Follows [] h e legal follows

-- a prefix of a legal history is legal
pub IsLegal-front : (h more : ChanHistory) → IsLegal (h ++ more) → IsLegal h
IsLegal-front h more legal = AllHold-front Follows [] h more legal

-- the entry after a prefix follows it
pub IsLegal-next : (h : ChanHistory) (e : ChanEntry) (more : ChanHistory) → IsLegal (h ++ e ∷ more) → Follows h e
IsLegal-next h e more legal = AllHold-last Follows [] h e more legal

-- the last entry follows those before it
pub IsLegal-last : (h : ChanHistory) (e : ChanEntry) → IsLegal (h ++ e ∷ []) → Follows h e
IsLegal-last h e legal = AllHold-last Follows [] h e [] legal

-- what is true of the empty history, and with each further entry that may follow, is true of every legal history
pub legal_induction : (P : ChanHistory → Type 0) → P [] → ((h : ChanHistory) (e : ChanEntry) → IsLegal h → Follows h e → P h → P (h ++ e ∷ [])) → (h : ChanHistory) → IsLegal h → P h
legal_induction P none more h legal = history_induction Follows P none more h legal
