-- A part of an input by where it ends is the part by how long it is. h, l, m and e are how many bytes of HEX text, schedule and data and how many entries there are.
-- Assumes nothing.
use mathlib.Core.Path.{◌≡◌}
use mathlib.Core.List.{List}
use Prim.Native.Nat.{ℕ, ◌+◌, ◌*◌, ◌-◌}
use native.Mathlib.Omega.{arith}
use Rattle.rerunning.specs.Rerun.{part}

pub same_parts : (F : List ℕ → List ℕ → List ℕ → List ℕ → List ℕ) (s : List ℕ) (h l m e : ℕ)
    → let at = 62 + 4 * e in
    F (part s 62 (at - 62)) (part s at (at + m - at)) (part s (at + m) (at + m + h - (at + m))) (part s (at + m + h) (at + m + h + l - (at + m + h)))
    ≡ F (part s 62 (4 * e)) (part s at m) (part s (at + m) h) (part s (at + m + h) l)
same_parts F s h l m e =
    let at = 62 + 4 * e in
    let a : at - 62 ≡ 4 * e = omega arith in
    let b : at + m - at ≡ m = omega arith in
    let c : at + m + h - (at + m) ≡ h = omega arith in
    let d : at + m + h + l - (at + m + h) ≡ l = omega arith in
    rw (a, b, c, d)
