-- Writing bytes into a buffer. Assumes nothing.
use Rattle.std.proofs.Common.{◌≡◌, ℕ, ◌+◌, ◌-◌, ◌≤◌, List, ◌++◌, length, take, drop, Some, None, Option, sym, refl, ap, ◌∙◌, subst, append_assoc, arith, length-append, length-drop, length-take-le, drop-drop, take_at, drop_at}
use Rattle.scale.specs.Forms.{overwrite, Printed, Forms, RoundTrip}

module _ (before : List ℕ) (at : ℕ) (bytes : List ℕ) (room : at + length bytes ≤ length before) where
  front : length (take at before ++ bytes) ≡ at + length bytes
  front = length-append (take at before) bytes ∙ ap (λ n. n + length bytes) (length-take-le at before (omega arith))

  pub length-overwrite : length (overwrite before at bytes) ≡ length before
  length-overwrite =
      let a = length-append (take at before) (bytes ++ drop (at + length bytes) before) in
      let b = length-append bytes (drop (at + length bytes) before) in
      let c = length-drop (at + length bytes) before in
      let d = length-take-le at before (omega arith) in omega arith

  -- what stands in the buffer up to the end of the bytes, and after them
  pub take-overwrite : (end : ℕ) → end ≡ at + length bytes → take end (overwrite before at bytes) ≡ take at before ++ bytes
  take-overwrite end e = ap (take end) (sym (append_assoc (take at before) bytes (drop (at + length bytes) before))) ∙ take_at (take at before ++ bytes) (drop (at + length bytes) before) end (front ∙ sym e)

  pub drop-overwrite : (end : ℕ) → end ≡ at + length bytes → drop end (overwrite before at bytes) ≡ drop end before
  drop-overwrite end e = ap (drop end) (sym (append_assoc (take at before) bytes (drop (at + length bytes) before))) ∙ drop_at (take at before ++ bytes) (drop (at + length bytes) before) end (front ∙ sym e) ∙ ap (λ n. drop n before) (sym e)

  -- the bytes are read back where they were written
  pub between_overwrite : (end : ℕ) → end ≡ at + length bytes → take (end - at) (drop at (overwrite before at bytes)) ≡ bytes
  between_overwrite end e = ap (take (end - at)) (drop_at (take at before) (bytes ++ drop (at + length bytes) before) at (length-take-le at before (omega arith))) ∙ take_at bytes (drop (at + length bytes) before) (end - at) (omega arith)

-- bytes written after bytes
pub overwrite-append : (before : List ℕ) (at : ℕ) (u v : List ℕ) → at + length u ≤ length before → overwrite (overwrite before at u) (at + length u) v ≡ overwrite before at (u ++ v)
overwrite-append before at u v room =
    let n : at + length u + length v ≡ at + length (u ++ v) = omega (arith, length-append u v) in
    let t = take-overwrite before at u room (at + length u) refl in
    let o = drop-drop (length v) (at + length u) (overwrite before at u) in
    let d = sym o ∙ ap (drop (length v)) (drop-overwrite before at u room (at + length u) refl) ∙ drop-drop (length v) (at + length u) before ∙ ap (λ k. drop k before) n in
    ap (λ f. f ++ (v ++ drop (at + length u + length v) (overwrite before at u))) t
    ∙ ap (λ r. (take at before ++ u) ++ (v ++ r)) d
    ∙ append_assoc (take at before) u (v ++ drop (at + length (u ++ v)) before)
    ∙ ap (λ r. take at before ++ r) (sym (append_assoc u v (drop (at + length (u ++ v)) before)))

-- one print after another
pub printed_append : (before middle after : List ℕ) (at mid end : ℕ) (u v : List ℕ) → Printed u at before middle (Some mid) → Printed v mid middle after (Some end) → Printed (u ++ v) at before after (Some end)
printed_append before middle after at mid end u v (em, rm, wm) (ee, re, we) =
    let room : at + length u ≤ length before = omega arith in
    let l = ap length wm ∙ length-overwrite before at u room in
    let n = length-append u v in
    (omega arith, omega arith, we ∙ ap (λ b. overwrite b mid v) wm ∙ ap (λ k. overwrite (overwrite before at u) k v) em ∙ overwrite-append before at u v room)

-- one print after another where there is room for both, so that the second one is not refused
pub printed_then : (before middle after : List ℕ) (at mid : ℕ) (r : Option ℕ) (u v : List ℕ) → at + length u + length v ≤ length before → Printed u at before middle (Some mid) → Printed v mid middle after r → Printed (u ++ v) at before after r
printed_then before middle after at mid (Some end) u v room first second = printed_append before middle after at mid end u v first second
printed_then before middle after at mid None u v room (em, rm, wm) (short, same) =
    let l = ap length wm ∙ length-overwrite before at u (omega arith) in absurd (omega arith)

-- a print of the same bytes
pub printed_same : (u v : List ℕ) (at : ℕ) (before after : List ℕ) (r : Option ℕ) → Printed v at before after r → u ≡ v → Printed u at before after r
printed_same u v at before after r p e = subst (λ bytes. Printed bytes at before after r) (sym e) p

-- what was printed is read back as the mark that it was
pub round_trip : {M : Type 0} {bytes : M → List ℕ} {width : ℕ} → Forms bytes width → RoundTrip bytes
round_trip {bytes = bytes} forms m at end before after (Some n) (e, room, w) h =
    ap Some (forms.distinct n m (sym h ∙ ap (λ b. take (end - at) (drop at b)) w ∙ between_overwrite before at (bytes m) (omega arith) end e))
round_trip {bytes = bytes} forms m at end before after None (e, room, w) h =
    absurd (h m (ap (λ b. take (end - at) (drop at b)) w ∙ between_overwrite before at (bytes m) (omega arith) end e))
