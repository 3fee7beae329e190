-- The statements on comparisons, from their ticks; and with handlers between, from demand 3.
-- Assumes nothing.
use mathlib.Core.Path.{◌≡◌, refl, sym, ap, ◌∙◌, subst}
use mathlib.Core.Logic.{◌⊎◌, inl, inr}
use mathlib.Core.Bool.{Bool, true, false}
use mathlib.Core.List.{List}
use Prim.Native.Nat.{ℕ, zero, suc, ◌+◌, ◌-◌, ◌<◌}
use native.Mathlib.Omega.{arith}
use lib.Dec.{eqb}
use borrow.Author.Tests.{ne_eqb}
use Rattle.basis.specs.Pick.{pick}
use Rattle.basis.specs.Bit.{bit}
use Rattle.basis.proofs.Choice.{clash, either}
use Rattle.instruction.specs.Decode.{decode_of}
use Rattle.memory.specs.Memory.{has_word_of}
use Rattle.cores.specs.State.{flag, Sound}
use Rattle.cores.specs.Flow.{op_at}
use Rattle.tick.specs.Tick.{due}
use Rattle.tick.specs.Offer.{Offer}
use Rattle.std.specs.Prelude.{None}
use Rattle.interrupts.specs.RegisterOnly.{register_only, kind_of}
use Rattle.interrupts.specs.Handlers.{handler_ticks}
use Rattle.interrupts.specs.Interrupts.{State, Offers, no_offers, Kept, kept, pc, sp, after, enters, returns, NoTrace}
use Rattle.interrupts.proofs.Logic.{first_unique}
use Rattle.interrupts.proofs.Steps.{none_due, inhibited_due, serving_due, calm_due}
use Rattle.interrupts.proofs.Interrupts.{interrupts_leave_no_trace, no_trace_at_the_end}
use Rattle.comparisons.specs.Comparisons.{flag_of, Comparison, NoneEnters, WithHandlers, ComparesAnyWidth, ComparesWithHandlers, ComparesWithHandlersAtTheEnd, ComparisonsAreStretches, NotTaken, nothing, disabled, serving, inhibited, NoneEntersExactly}
use Rattle.comparisons.proofs.Ticks.{Past, past, runs, ticked, first}

-- ---- no interrupt entered
-- at a tick that neither enters nor is refused nothing is due
module _ (p : List ℕ) (s : State) (n : ℕ) (d r : ℕ → ℕ) (v : Offers) (sound : Sound s.core) (c : Comparison n d r p (pc s)) where
  abbrev Undue : ℕ → Type 0
  Undue t = Past p s n d r sound c t (after p s v t) → due (after p s v t).core (v t) ≡ None

  calm_undue : NoneEnters p s n v → (t : ℕ) → t < n → Undue t
  calm_undue quiet t h x = let (a, f) = quiet t h in calm_due (after p s v t).core p (after p s v t).bytes (v t) x.ready a f

  -- nor where the offer is not taken
  untaken_undue : (t : ℕ) → NotTaken s v t → Undue t
  untaken_undue t (nothing e) x = rw e (none_due (after p s v t).core)
  untaken_undue t (disabled e) x = rw (x.i_kept ∙ e) (either (λ o. o ≡ None) (after p s v t).core.inhibit None None refl refl)
  untaken_undue t (serving e) x = serving_due (after p s v t).core (v t) (x.serves ∙ e)
  untaken_undue t (inhibited z e) x = inhibited_due (after p s v t).core (v t) (x.inhibits ∙ rw z e)

  -- and the other way round, by the tests that make an offer due
  taken_by : (i f g : Bool) (o : Offer) → pick i None (pick f (pick g None o) None) ≡ None → (i ≡ true) ⊎ ((f ≡ false) ⊎ ((g ≡ true) ⊎ (o ≡ None)))
  taken_by true f g o e = inl refl
  taken_by false false g o e = inr (inl refl)
  taken_by false true true o e = inr (inr (inl refl))
  taken_by false true false o e = inr (inr (inr e))

  first_inhibits : (t : ℕ) (i : Bool) → i ≡ pick (eqb t 0) s.core.inhibit false → i ≡ true → NotTaken s v t
  first_inhibits zero i e y = inhibited refl (sym e ∙ y)
  first_inhibits (suc t) i e y = clash (sym y ∙ e ∙ rw (ne_eqb (suc t) 0 (omega arith)))

  undue_untaken : (t : ℕ) → Past p s n d r sound c t (after p s v t) → due (after p s v t).core (v t) ≡ None → NotTaken s v t
  undue_untaken t x e =
      let k = (after p s v t).core in
      elim (taken_by k.inhibit (flag k 7) k.in_service (v t) e) [
        | inl y ↦ first_inhibits t k.inhibit x.inhibits y
        | inr (inl y) ↦ disabled (sym x.i_kept ∙ y)
        | inr (inr (inl y)) ↦ serving (sym x.serves ∙ y)
        | inr (inr (inr y)) ↦ nothing y
      ]

pub compares_any_width : ComparesAnyWidth
compares_any_width p s n d r v sound b c quiet = ticked p s n d r sound c b v (calm_undue p s n d r v sound c quiet)

pub none_enters_exactly : NoneEntersExactly
none_enters_exactly p s n d r v sound b c = (
  λ quiet t h.
      let calm = calm_undue p s n d r v sound c quiet in
      let x = past p s n d r sound c b v calm t (omega arith) in
      undue_untaken p s n d r v sound c t x (calm t h x),
  λ untaken t h. let e = runs p s n d r sound c b v (λ t h. untaken_undue p s n d r v sound c t (untaken t h)) t h in (rw e (omega arith), rw e),
)

-- ---- with handlers between: from the plain run to the one with handlers
module _ (p : List ℕ) (s : State) (n : ℕ) (d r : ℕ → ℕ) (v : Offers) (long short : ℕ) (sound : Sound s.core) (c : Comparison n d r p (pc s))
    (b : s.core.busy ≡ 0) (free : s.core.in_service ≡ false) (t : NoTrace p s n v long short) where
  undue : (t : ℕ) → t < n → Undue p s n d r no_offers sound c t
  undue t h x = none_due (after p s no_offers t).core

  short_n : short ≡ n
  short_n = first_unique short n t.plain_first (first p s n d r sound c b no_offers undue free)

  plain_kept : kept (after p s v long) ≡ kept (after p s no_offers n)
  plain_kept = t.same_kept ∙ ap (λ (i : ℕ). kept (after p s no_offers i)) short_n

  same_flag : (f : ℕ) → flag (after p s v long).core f ≡ flag (after p s no_offers n).core f
  same_flag f = ap (λ (x : Kept). bit x.sreg f) plain_kept

  carried : WithHandlers p s n d r v long
  carried =
      let x = (ticked p s n d r sound c b no_offers undue).compared in
      record {
        first = t.first;
        compared = record {
          flags = λ q. same_flag (flag_of q) ∙ x.flags q;
          up_by_n = t.first.reached.there;
          t_kept = same_flag 6 ∙ x.t_kept;
          i_kept = same_flag 7 ∙ x.i_kept;
          regs_kept = ap (λ (x : Kept). x.regs) plain_kept ∙ x.regs_kept;
          sp_kept = t.same_sp ∙ ap (λ (i : ℕ). sp (after p s no_offers i)) short_n ∙ x.sp_kept;
        };
        ticks = t.ticks ∙ ap (λ (i : ℕ). i + handler_ticks (enters p s v) (returns p s v) long) short_n;
      }

pub compares_with_handlers : ComparesWithHandlers
compares_with_handlers p s n d r v sound c a =
    let (long, short, t) = interrupts_leave_no_trace p s n v a in
    (long, carried p s n d r v long short sound c a.begins.ready a.begins.free t)

pub compares_with_handlers_at_the_end : ComparesWithHandlersAtTheEnd
compares_with_handlers_at_the_end p s n d r v long sound c a =
    let (short, t) = no_trace_at_the_end p s n v long a in
    carried p s n d r v long short sound c a.begins.ready a.begins.free t

-- ---- each comparison is a stretch
pub comparisons_are_stretches : ComparisonsAreStretches
comparisons_are_stretches p start n d r c =
    record {
      ends = c.ends;
      there = λ y a b. let e : start + (y - start) ≡ y = omega arith in subst (λ i. has_word_of p i ≡ true) e (c.there (y - start) (omega arith));
      list = λ y a b. let e : start + (y - start) ≡ y = omega arith in subst (λ i. kind_of (op_at decode_of p i) ≡ register_only) e (listed (y - start) (omega arith));
    }
  where
    listed : (i : ℕ) → i < n → kind_of (op_at decode_of p (start + i)) ≡ register_only
    listed zero h = let e : start + 0 ≡ start = omega arith in rw (e, c.lowest)
    listed (suc i) h = rw (c.following (suc i) (omega arith) h)
