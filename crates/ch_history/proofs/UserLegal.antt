-- Legal histories of a user shard: their fronts, their last entry, and one entry more.
use Rattle.std.proofs.Common.{[], ◌∷◌, ◌++◌}
use Rattle.ch_history.specs.Entries.{UserEntry, UserHistory}
use Rattle.ch_history.specs.UserLegal.{UserFollows, IsUserLegal}
use Rattle.ch_history.proofs.Steps.{AllHold-push, AllHold-front, AllHold-last, history_induction}

-- a legal history goes on by an entry that may follow
pub IsUserLegal-push : (h : UserHistory) (e : UserEntry) → IsUserLegal h → UserFollows h e → IsUserLegal (h ++ e ∷ [])
IsUserLegal-push h e legal follows = AllHold-push UserFollows [] h e legal follows

-- a prefix of a legal history is legal
pub IsUserLegal-front : (h more : UserHistory) → IsUserLegal (h ++ more) → IsUserLegal h
IsUserLegal-front h more legal = AllHold-front UserFollows [] h more legal

-- the entry after a prefix follows it
pub IsUserLegal-next : (h : UserHistory) (e : UserEntry) (more : UserHistory) → IsUserLegal (h ++ e ∷ more) → UserFollows h e
IsUserLegal-next h e more legal = AllHold-last UserFollows [] h e more legal

-- the last entry follows those before it
pub IsUserLegal-last : (h : UserHistory) (e : UserEntry) → IsUserLegal (h ++ e ∷ []) → UserFollows h e
IsUserLegal-last h e legal = IsUserLegal-next h e [] legal

-- what is true of the empty history, and with each further entry that may follow, is true of every legal history
pub user_legal_induction : (P : UserHistory → Type 0) → P [] → ((h : UserHistory) (e : UserEntry) → IsUserLegal h → UserFollows h e → P h → P (h ++ e ∷ [])) → (h : UserHistory) → IsUserLegal h → P h
user_legal_induction P none more h legal = history_induction UserFollows P none more h legal
