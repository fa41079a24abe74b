use Rattle.std.proofs.Common.{rules, ◌≡◌, [], ◌∷◌, ◌++◌, length, drop, ap, sym, ◌∙◌}
use Rattle.std.specs.Prelude.{slice_get}
use Rattle.std.proofs.lemmas.List.{take_at}
use Rattle.ch_house.specs.Houses.{PassesModel}
use Rattle.ch_house.proofs.Places.{two_popped}
use Rattle.rows_house.proofs.house.work_of_both.Goals as goal

pub returns-clause-first : goal.returns-clause-first
returns-clause-first g c =
    let given : c.as_mut_slice.result.now ≡ c.worker_at.result ∷ c.worker_at-2.result ∷ [] =
    c.as_mut_slice.ensures.value ∙ (c.push_reserved-2.ensures.items ∙ ((λ j. c.push_reserved.ensures.items j ++ (c.worker_at-2.result ∷ [])) ∙ (λ j. (c.in-Ok.ensures.items j ++ (c.worker_at.result ∷ [])) ++ (c.worker_at-2.result ∷ [])))) in
    let long : length c.work_in_threads.new.workers ≡ 2 = c.work_in_threads.ensures.count ∙ ap length given in
    let len : c.push_reserved-2.new.self.len ≡ 2 = search rules in
    let whole = sym (take_at c.work_in_threads.new.workers (drop (length c.work_in_threads.new.workers) c.push_reserved-2.new.self.items) c.push_reserved-2.new.self.len (long ∙ sym len)) ∙ c.in_ok-second.ensures.items in
    let at = two_popped c.work_in_threads.new.workers c.pop.new.self.items c.pop-2.new.self.items c.in_ok-first.first c.in_ok-second.second long whole c.in_ok-first.ensures.items in
    let same = c.work_in_threads.ensures.same 0 c.worker_at.result c.in_ok-first.first (ap (λ l. slice_get l 0) given) at.0 in (
      ap (λ (p : PassesModel). p.house) c.into_passes.ensures ∙ (same.0 ∙ ap (λ (p : PassesModel). p.house) c.worker_at.ensures),
      ap (λ (p : PassesModel). p.caller) c.into_passes.ensures ∙ (same.1 ∙ ap (λ (p : PassesModel). p.caller) c.worker_at.ensures),
    )

pub returns-clause-second : goal.returns-clause-second
returns-clause-second g c =
    let given : c.as_mut_slice.result.now ≡ c.worker_at.result ∷ c.worker_at-2.result ∷ [] =
    c.as_mut_slice.ensures.value ∙ (c.push_reserved-2.ensures.items ∙ ((λ j. c.push_reserved.ensures.items j ++ (c.worker_at-2.result ∷ [])) ∙ (λ j. (c.in-Ok.ensures.items j ++ (c.worker_at.result ∷ [])) ++ (c.worker_at-2.result ∷ [])))) in
    let long : length c.work_in_threads.new.workers ≡ 2 = c.work_in_threads.ensures.count ∙ ap length given in
    let len : c.push_reserved-2.new.self.len ≡ 2 = search rules in
    let whole = sym (take_at c.work_in_threads.new.workers (drop (length c.work_in_threads.new.workers) c.push_reserved-2.new.self.items) c.push_reserved-2.new.self.len (long ∙ sym len)) ∙ c.in_ok-second.ensures.items in
    let at = two_popped c.work_in_threads.new.workers c.pop.new.self.items c.pop-2.new.self.items c.in_ok-first.first c.in_ok-second.second long whole c.in_ok-first.ensures.items in
    let same = c.work_in_threads.ensures.same 1 c.worker_at-2.result c.in_ok-second.second (ap (λ l. slice_get l 1) given) at.1 in (
      ap (λ (p : PassesModel). p.house) c.into_passes-2.ensures ∙ (same.0 ∙ ap (λ (p : PassesModel). p.house) c.worker_at-2.ensures),
      ap (λ (p : PassesModel). p.caller) c.into_passes-2.ensures ∙ (same.1 ∙ ap (λ (p : PassesModel). p.caller) c.worker_at-2.ensures),
    )
