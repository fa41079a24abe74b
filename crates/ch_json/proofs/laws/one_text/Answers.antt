use Rattle.ch_json.proofs.OneText as texts
use Rattle.ch_json.proofs.laws.one_text.Goals as goal

pub returns : goal.returns
returns c = λ bytes v w h k. texts.one_text bytes v w h k
