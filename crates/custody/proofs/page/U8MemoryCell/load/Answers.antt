use Rattle.std.proofs.Common.{rules, ◌≡◌, ℕ, suc, ◌+◌, ◌*◌, ◌<◌, ◌/◌, List, [], get_or, length, take, drop, ap, ◌∙◌, arith}
use Rattle.std.proofs.NetLemmas.Arrays.{eight_items}
use Rattle.std.proofs.lemmas.List.{drop-drop, length-take, length-drop}
use Rattle.std.specs.Simd.{first_chunks}
use Rattle.custody.specs.Pages.{word}
use Rattle.custody.proofs.page.U8MemoryCell.load.Goals as goal

-- chunk b is the part of the list that begins at b times its length
chunk_at : {X : Type 0} (n k b : ℕ) (xs : List X) → b < k → get_or (first_chunks n k xs) b [] ≡ take n (drop (b * n) xs)
chunk_at n Prim.Native.Nat.zero b xs h = absurd (omega arith)
chunk_at n (suc k) Prim.Native.Nat.zero xs h = let e : 0 * n ≡ 0 = omega arith in rw e
chunk_at n (suc k) (suc b) xs h = let e : suc b * n ≡ n + b * n = omega arith in chunk_at n k b (drop n xs) (omega arith) ∙ rw (drop-drop (b * n) n xs, e)

pub returns : goal.returns
returns c =
    let bytes : List ℕ = c.args.memory.now in
    let b = c.args.box_number in
    let found : List ℕ = c.in_ok-word.word.now in
    let listed : b < length c.as_chunks.result.0.now = search rules in
    let same : found ≡ get_or c.as_chunks.result.0.now b [] = search rules in
    let part : found ≡ take 8 (drop (b * 8) bytes)
    = same ∙ ap (λ (l : List (List ℕ)). get_or l b []) c.as_chunks.ensures.front ∙ chunk_at 8 (length bytes / 8) b bytes (omega arith) in
    let long : length found ≡ 8 = rw part (simp (length-take, length-drop) (omega arith)) in
    let all = ap word (eight_items found long) in
    let whole = ap word part in
    grind arith
