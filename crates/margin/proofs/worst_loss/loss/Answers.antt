use Rattle.std.proofs.Common.{◌≡◌, ℕ, ◌+◌, [], ◌∷◌, ◌++◌, length, ℤ, pos, ◌-ℤ◌, ◌*ℤ◌, neg_ℤ, nat_abs, ap, ◌∙◌, arith, to_z-of_z, w32, w64, SFits, to_z, of_z, rules}
use Rattle.std.proofs.lemmas.Int.{ints, clamps}
use Rattle.std.proofs.lemmas.List.{length-append}
use Rattle.std.proofs.lemmas.Slice.Zip.{zip_turn, zip_end}
use Rattle.std.specs.Int.{int_max}
use Rattle.rules.specs.Sizes.{contracts}
use Rattle.rules.specs.declared.row.Lots.{Lots}
use Rattle.rules.specs.States.{lots, lots_of}
use Rattle.margin.specs.Losses.{sumℤ, gain_at}
use Rattle.margin.proofs.Signs.{abs_above_0, sumℤ_more}
use Rattle.margin.proofs.worst_loss.loss.Goals as goal

pub loop-lots-preserved : goal.loop-lots-preserved
loop-lots-preserved c =
    let n = length c.loop-lots.yielded in
    let f : ℕ → ℤ = gain_at c.args.moves.now c.args.counts.now.counts in
    let turn = zip_turn c.args.counts.now.counts.each c.args.moves.now c.loop-lots.yielded _ _ c.next.new.self _ (search rules) (search rules) c.loop-lots.yielded_by _ c.in-Some.is c.next.ensures.steps in
    let m : SFits w32 c.in-Some.shift.now = search rules in
    let v : c.gain-sum.result ≡ f n =
    c.gain-sum.ensures.value
    ∙ ap (λ (l : Lots). (pos l.long -ℤ pos l.short) *ℤ to_z w32 (of_z w32 c.in-Some.shift.now)) (turn.2 (lots 0 0))
    ∙ ap (λ (z : ℤ). (pos (lots_of c.args.counts.now.counts n).long -ℤ pos (lots_of c.args.counts.now.counts n).short) *ℤ z) (to_z-of_z m ∙ turn.3 (pos 0)) in
    let s = sumℤ_more n f in
    let i = c.loop-lots.invariant.1 in
    let one : length (c.loop-lots.yielded ++ (c.in-Some.lots, c.in-Some.shift) ∷ []) ≡ n + 1 = length-append _ _ in
    rw one (omega (arith, ints), omega (arith, ints))

pub returns : goal.returns
returns c =
    let n = length c.loop-lots.yielded in
    let f : ℕ → ℤ = gain_at c.args.moves.now c.args.counts.now.counts in
    let least = zip_end c.args.counts.now.counts.each c.args.moves.now c.loop-lots.yielded _ _ c.next.new.self _ (search rules) (search rules) c.loop-lots.yielded_by c.in-None.is c.next.ensures.steps in
    let end : n ≡ contracts = search (rules, least) in
    let e : sumℤ n f ≡ sumℤ contracts f = ap (λ (k : ℕ). sumℤ k f) end in
    let i = c.loop-lots.invariant.1 in
    let m : to_z w64 (of_z w64 c.max.result) ≡ int_max (neg_ℤ (sumℤ contracts f)) (pos 0) = omega (arith, ints, clamps) in
    c.unsigned_abs.ensures.value ∙ ap nat_abs m ∙ abs_above_0 (neg_ℤ (sumℤ contracts f))
