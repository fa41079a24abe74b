use Rattle.std.proofs.lemmas.Bool.{eqb-true}
use Rattle.std.proofs.Common.{vec_len, Ok, inl, inr, arith, refl, sym, subst, ◌∙◌, ◌≡◌}
use Rattle.ch_json.specs.ReaderView.{Sees, Ends, Open, nodes_of}
use Rattle.ch_json.specs.Machine.{go}
use Rattle.ch_json.specs.States.{in_number_of}
use Rattle.ch_json.proofs.Follow as follow
use Rattle.ch_json.proofs.reader.Reader.finish.Goals as goal
use Rattle.ch_json.proofs.reader.Reader.finish.Goals.{in-After, in-Number, in-Value}

pub returns : goal.returns
returns c = λ m room fs sees.
    let empty : vec_len c.args.self.now.frames ≡ 0 = eqb-true (vec_len c.args.self.now.frames) 0 (sym c.is_empty.ensures ∙ c.if-not-is_empty.false) in
    let none = follow.frames_none c.args.self.now room fs _ sees.brackets (omega arith) in
    elim c.match-mode-2.branch [
      | in-After w ↦
          let k = subst (λ y. Sees c.args.self.now y m room fs) w.in-After.is sees in
          subst (λ x. Ends c.args.at x c.match-mode-2.self (go m room fs)) (sym w.result-is) (subst (λ r. Ends c.args.at (Ok w.in-After.node) r (go m room fs)) (sym w.self-is) (follow.ends_after c.args.self.now c.args.at w.in-After.node m room fs none k.mode))
      | in-Number w ↦
          let k = subst (λ y. Sees c.args.self.now y m room fs) w.in-Number.is sees in
          let top = subst (λ y. Open c.args.self.now room y 0) none k.brackets in
          subst (λ x. Ends c.args.at x c.match-mode-2.self (go m room fs)) (sym w.result-is)
          (subst (λ r. Ends c.args.at w.last_number.result r (go m room fs)) (sym w.self-is)
          (follow.ends_number w.last_number.new.self c.args.at w.last_number.result w.in-Number.from (in_number_of w.in-Number.state) m room fs none k.mode (w.last_number.ensures room top)))
      | in-Value w ↦
          let other : follow.IsOther c.args.mode = elim w.in-Value.is [
            | inl p ↦ subst follow.IsOther (sym p) tt
            | inr h1 ↦ elim h1 [
              | inl p ↦ subst follow.IsOther (sym p.1) tt
              | inr h2 ↦ elim h2 [
                | inl p ↦ subst follow.IsOther (sym p.1) tt
                | inr h3 ↦ elim h3 [
                  | inl p ↦ subst follow.IsOther (sym p.2) tt
                  | inr h4 ↦ elim h4 [
                    | inl p ↦ subst follow.IsOther (sym p.4) tt
                    | inr h5 ↦ elim h5 [
                      | inl p ↦ subst follow.IsOther (sym p.3) tt
                      | inr h6 ↦ elim h6 [ inl p ↦ subst follow.IsOther (sym p.3) tt | inr p ↦ subst follow.IsOther (sym p.2) tt ]
                    ]
                  ]
                ]
              ]
            ]
          ] in
          subst (λ x. Ends c.args.at x c.match-mode-2.self (go m room fs)) (sym w.result-is) (refl, follow.ends_open (nodes_of c.args.self.now) c.args.at c.args.mode m room fs none sees.mode other)
    ]
