use Rattle.std.proofs.Common.{◌≡◌, ℕ, ◌<◌, ◌∷◌, length, None, ap, ◌∙◌, sym, rules, arith, Iter}
use Rattle.std.proofs.lemmas.List.{nil_from_length}
use Rattle.code.specs.Erasures.{merged}
use Rattle.code.proofs.Marks.{merging_marked, merging_known, merging_none}
use Rattle.code.proofs.fill.put_values.Goals as goal
use Rattle.code.proofs.fill.put_values.Goals.{then-unknown-p+in-Some, else-unknown-p, else-unknown-p-via-else-unknown-p, else-unknown-p-via-then-unknown-p+in-None-1}

pub loop-p-preserved : goal.loop-p-preserved
loop-p-preserved c =
    let bs = c.args.unknown.now in
    let was = merged bs c.args.out.now c.args.values.now in
    let now = c.loop-p.out in
    let vs = c.loop-p.left.rest.now in
    let p = c.loop-p.p in
    let o = c.if-unknown-p.out in
    let rest = c.if-unknown-p.left.rest.now in
    let l : p < length now = omega arith in
    let lb : p < length bs = omega arith in
    elim c.if-unknown-p.branch [
      | then-unknown-p+in-Some w ↦
          merging_marked 0 bs was now vs p l lb c.loop-p.invariant o rest w.in-Some.field-0.now w.if-unknown-p.true w.out-is
          (w.in-Some.ensures.steps ∙ ap (λ (i : Iter ℕ). w.in-Some.field-0.now ∷ i.rest.now) (sym w.left-is))
      | else-unknown-p w ↦
          elim w.else-unknown-p.branch [
            | else-unknown-p-via-else-unknown-p w' ↦
                merging_known 0 bs was now vs p l lb c.loop-p.invariant o rest w'.if-unknown-p.false (w.out-is ∙ w'.out-is)
                (ap (λ (i : Iter ℕ). i.rest.now) (w.left-is ∙ w'.left-is))
            | else-unknown-p-via-then-unknown-p+in-None-1 w' ↦
                let is : w'.next.result ≡ None = search rules in
                let stop = rw is at w'.next.ensures.steps in
                merging_none 0 bs was now vs p l lb c.loop-p.invariant o rest (w.out-is ∙ w'.out-is) (nil_from_length vs stop.0) (ap (λ (i : Iter ℕ). i.rest.now) (w.left-is ∙ w'.left-is ∙ stop.1))
          ]
    ]
