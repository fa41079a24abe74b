use Rattle.std.proofs.Common.{◌∷◌, [], codes, Option, ℕ, List, ap, sym, ◌∙◌, subst, ◌^◌, ◌-◌}
use Rattle.ch_soak.specs.declared.limits.TheConstants.{FEWEST_LINES, MOST_LINES}
use Rattle.ch_soak.specs.SoakWords.{Spells, IsReading}
use Rattle.ch_soak.proofs.Numbers.{texts_equal}
use Rattle.ch_soak.proofs.ThreeWords.{three_are}
use Rattle.ch_soak.proofs.words.soak_of.Goals as goal

pub returns-in-Some-Some : goal.returns-in-Some-Some
returns-in-Some-Some c =
    let command = sym c.as_str.ensures.same ∙ texts_equal c.as_str.result.now (codes "soak") c.if-ne.ensures in
    let seed = subst (λ (o : Option ℕ). IsReading c.as_str-2.result.now 0 (2 ^ 64 - 1) o) c.in-Some-Some.is-0 c.in_ok-seed.ensures in
    let lines = subst (λ (o : Option ℕ). IsReading c.as_str-3.result.now FEWEST_LINES MOST_LINES o) c.in-Some-Some.is-1 c.in_ok-lines.ensures in
    record {
      seed = c.seed-item.result;
      lines = c.lines-item.result;
      words_are = three_are c.args.words.now c.command-item.result c.seed-item.result c.lines-item.result c.in-len3.len_at_least c.in-len3.len_below c.command-item.is c.seed-item.is c.lines-item.is
          ∙ ap (λ (x : List ℕ). x ∷ c.seed-item.result ∷ c.lines-item.result ∷ []) command;
      spells_seed = subst (λ (x : List ℕ). Spells x 0 (2 ^ 64 - 1) c.in-Some-Some.seed) c.as_str-2.ensures.same seed;
      spells_lines = subst (λ (x : List ℕ). Spells x FEWEST_LINES MOST_LINES c.in-Some-Some.lines) c.as_str-3.ensures.same lines;
    }
