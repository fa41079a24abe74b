use Rattle.ch_house.proofs.OwnCounts.{call_adds, others_stay, just_all}
use Rattle.ch_house.proofs.laws.callers_entries_stay.Goals as goal

pub returns : goal.returns
returns g c = record { call = call_adds; others = others_stay; just = just_all }
