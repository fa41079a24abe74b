-- Targets that open a connection to the app whose key is `k`, and those that are refused.
use Rattle.std.specs.Prelude.{◌≡◌, ℕ, List, [], codes, Option, Some, None}
use Rattle.ch_protocol.specs.Targets.{target_refusal}

abbrev pub refusal_of : List ℕ → Option ℕ
refusal_of target = target_refusal (codes "k") target

pub record TargetExamples : Type 0 where
  pub opens : refusal_of (codes "/app/k?protocol=7") ≡ None
  pub of_a_browser : refusal_of (codes "/app/k?protocol=7&client=js&version=8.4.0&flash=false") ≡ None
  pub encoded_name : refusal_of (codes "/app/k?proto%63ol=7") ≡ None
  pub first_counts : refusal_of (codes "/app/k?protocol=7&protocol=6") ≡ None
  pub empty : refusal_of [] ≡ Some 4005
  pub other_path : refusal_of (codes "/ap") ≡ Some 4005
  pub no_key : refusal_of (codes "/app/?protocol=7") ≡ Some 4005
  pub more_parts : refusal_of (codes "/app/k/x?protocol=7") ≡ Some 4005
  pub other_key : refusal_of (codes "/app/x?protocol=7") ≡ Some 4001
  pub no_query : refusal_of (codes "/app/k") ≡ Some 4008
  pub other_case : refusal_of (codes "/app/k?Protocol=7") ≡ Some 4008
  pub letter : refusal_of (codes "/app/k?protocol=x") ≡ Some 4006
  pub no_version : refusal_of (codes "/app/k?protocol=") ≡ Some 4006
  pub older : refusal_of (codes "/app/k?protocol=6") ≡ Some 4007
  pub leading_zero : refusal_of (codes "/app/k?protocol=07") ≡ Some 4007
