use Rattle.std.proofs.Common.{◌∷◌, [], codes, Option, ℕ, List, ap, sym, ◌∙◌, subst}
use Rattle.ch_drill.specs.declared.limits.TheConstants.{MOST_ROUNDS, MOST_WORKERS}
use Rattle.ch_drill.specs.DrillWords.{Spells, IsReading}
use Rattle.ch_drill.proofs.Numbers.{texts_equal}
use Rattle.ch_drill.proofs.ThreeWords.{three_are}
use Rattle.ch_drill.proofs.words.drill_of.Goals as goal

pub returns-in-Some-Some : goal.returns-in-Some-Some
returns-in-Some-Some c =
    let command = sym c.as_str.ensures.same ∙ texts_equal c.as_str.result.now (codes "drill") c.if-ne.ensures in
    let workers = subst (λ (o : Option ℕ). IsReading c.as_str-2.result.now MOST_WORKERS o) c.in-Some-Some.is-0 c.in_ok-workers.ensures in
    let rounds = subst (λ (o : Option ℕ). IsReading c.as_str-3.result.now MOST_ROUNDS o) c.in-Some-Some.is-1 c.in_ok-rounds.ensures in
    record {
      workers = c.workers-item.result;
      rounds = c.rounds-item.result;
      words_are = three_are c.args.words.now c.command-item.result c.workers-item.result c.rounds-item.result c.in-len3.len_at_least c.in-len3.len_below c.command-item.is c.workers-item.is c.rounds-item.is
          ∙ ap (λ (x : List ℕ). x ∷ c.workers-item.result ∷ c.rounds-item.result ∷ []) command;
      spells_workers = subst (λ (x : List ℕ). Spells x MOST_WORKERS c.in-Some-Some.workers) c.as_str-2.ensures.same workers;
      spells_rounds = subst (λ (x : List ℕ). Spells x MOST_ROUNDS c.in-Some-Some.rounds) c.as_str-3.ensures.same rounds;
    }
