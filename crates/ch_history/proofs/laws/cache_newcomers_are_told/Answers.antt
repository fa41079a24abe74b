use Rattle.ch_history.proofs.CacheNewcomer.{cache_newcomer_law}
use Rattle.ch_history.proofs.laws.cache_newcomers_are_told.Goals as goal

pub returns : goal.returns
returns c = cache_newcomer_law
