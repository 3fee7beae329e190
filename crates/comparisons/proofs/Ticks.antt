-- CP and CPCs, tick by tick.
-- Assumes nothing.
use mathlib.Core.Path.{◌≡◌, refl, sym, ◌∙◌, subst}
use mathlib.Core.Bool.{Bool, false, ◌&&◌}
use mathlib.Core.List.{List}
use Prim.Native.Nat.{ℕ, zero, suc, ◌+◌, ◌^◌, ◌-◌, ◌≤◌, ◌<◌}
use native.Mathlib.Decide.{dec_lt}
use native.Mathlib.Omega.{arith}
use lib.Dec.{eqb, ltb}
use borrow.Author.Tests.{ne_eqb}
use Rattle.basis.specs.Pick.{pick}
use Rattle.instruction.specs.declared.Instruction.TheVariants.{CP, CPC}
use Rattle.alu.specs.Alu.{minus_of}
use Rattle.cores.specs.declared.Core.{Core}
use Rattle.cores.specs.State.{reg, flag, with_pc, with_inhibit, with_sreg, Sound}
use Rattle.cores.specs.Arithmetic.{sum_flags, is_zero}
use Rattle.tick.specs.Tick.{gives, due, tick_of}
use Rattle.tick.specs.Offer.{Offer}
use Rattle.std.specs.Prelude.{None}
use Rattle.tick.specs.declared.Answer.TheVariants.{Ran}
use Rattle.tick.proofs.Steps.{onward}
use Rattle.invariants.proofs.Bounds.{cznvsh_lt}
use Rattle.interrupts.specs.Handlers.{iterated, First}
use Rattle.interrupts.specs.Interrupts.{State, Offers, tick_at, next, after, number_at, Ended}
use Rattle.interrupts.proofs.Steps.{Met, step_tick}
use Rattle.comparisons.specs.Comparisons.{held, Question, less, equal, signed_less, flag_of, answer, Comparison, Ticked}
use Rattle.comparisons.proofs.Flags.{flag_c, flag_z, flag_s, flag_t, flag_i}
use Rattle.comparisons.proofs.Widening.{c_on, z_on, s_on, top_lt}

-- CP is CPC with C clear and Z set: core a, with registers x and y compared
abbrev compares : Core → ℕ → ℕ → Bool → Bool → Core
compares a x y c z = let q = minus_of (reg a x) (reg a y) c in with_sreg (onward a) (sum_flags a q (z && is_zero q))

module _ (p : List ℕ) (s : State) (n : ℕ) (d r : ℕ → ℕ) (sound : Sound s.core) (comparison : Comparison n d r p s.core.pc) where
  abbrev k : Core
  k = s.core

  held_lt : (x : ℕ → ℕ) (j : ℕ) → held k x j < 256 ^ j
  unfolding held
  held_lt x zero = omega arith
  held_lt x (suc j) = top_lt j (reg k (x j)) (held k x j) (sound.reg_lt (x j)) (held_lt x j)

  -- ---- after j of the instructions, in state a
  pub record Past (j : ℕ) (a : State) : Type 0 where
    pub regs : a.core.regs ≡ k.regs
    pub sp : a.core.sp ≡ k.sp
    pub here : a.core.pc ≡ k.pc + j
    pub ready : a.core.busy ≡ 0
    pub inhibits : a.core.inhibit ≡ pick (eqb j 0) k.inhibit false
    pub serves : a.core.in_service ≡ k.in_service
    pub same_bytes : a.bytes ≡ s.bytes
    pub sreg_lt : a.core.sreg < 256
    pub t_kept : flag a.core 6 ≡ flag k 6
    pub i_kept : flag a.core 7 ≡ flag k 7

  -- C, Z and S, of core a
  abbrev Flags : ℕ → Core → Type 0
  Flags j a = (q : Question) → flag a (flag_of q) ≡ answer j d r k q

  module _ (j : ℕ) (a : State) (x : Past j a) where
    -- what instruction j makes of the core
    abbrev made : Core
    made = compares a.core (d j) (r j) (ltb (held k d j) (held k r j)) (eqb (held k d j) (held k r j))

    past_on : Past (suc j) (record { core = made; bytes = a.bytes })
    unfolding with_pc with_inhibit
    past_on =
        record {
          regs = x.regs;
          sp = x.sp;
          here = omega (arith, x.here);
          ready = x.ready;
          inhibits = rw (ne_eqb (suc j) 0 (omega arith));
          serves = x.serves;
          same_bytes = x.same_bytes;
          sreg_lt = cznvsh_lt a.core.sreg x.sreg_lt _ _ _ _ _;
          t_kept = flag_t a.core.sreg _ _ _ _ _ x.sreg_lt ∙ x.t_kept;
          i_kept = flag_i a.core.sreg _ _ _ _ _ x.sreg_lt ∙ x.i_kept;
        }

    flags_on : Flags (suc j) made
    unfolding with_pc with_inhibit held minus_of
    flags_on less =
        flag_c a.core.sreg _ _ _ _ _ x.sreg_lt
        ∙ rw x.regs (c_on j (reg k (d j)) (reg k (r j)) (held k d j) (held k r j) (sound.reg_lt (d j)) (sound.reg_lt (r j)) (held_lt d j) (held_lt r j))
    flags_on equal =
        flag_z a.core.sreg _ _ _ _ _ x.sreg_lt
        ∙ rw x.regs (z_on j (reg k (d j)) (reg k (r j)) (held k d j) (held k r j) (sound.reg_lt (d j)) (sound.reg_lt (r j)) (held_lt d j) (held_lt r j))
    flags_on signed_less =
        let top : suc j - 1 ≡ j = omega arith in
        flag_s a.core.sreg _ _ _ _ _ x.sreg_lt
        ∙ rw (x.regs, top) (s_on j (reg k (d j)) (reg k (r j)) (held k d j) (held k r j) (sound.reg_lt (d j)) (sound.reg_lt (r j)) (held_lt d j) (held_lt r j))

    -- the tick at instruction j, with nothing due
    module _ (o : Offer) (h : j < n) (undue : due a.core o ≡ None) where
      met : Met a.core p a.bytes o x.ready (CP (d j) (r j))
      met = rw (x.here, comparison.there j h)

      bound : a.core.pc < 65535
      bound = omega (arith, x.here, comparison.ends)

      first_tick : j ≡ 0 → tick_of a.core p a.bytes o ≡ gives Ran made a.bytes
      unfolding held with_pc with_inhibit
      first_tick z =
          step_tick a.core p a.bytes o x.ready (CP (d j) (r j)) undue bound
          (let e : a.core.pc ≡ k.pc = omega (arith, x.here) in rw (e, z) comparison.lowest) met
          ∙ rw z

      later_tick : 1 ≤ j → Flags j a.core → tick_of a.core p a.bytes o ≡ gives Ran made a.bytes
      unfolding with_pc with_inhibit
      later_tick g f =
          step_tick a.core p a.bytes o x.ready (CPC (d j) (r j)) undue bound (rw x.here (comparison.following j g h)) met
          ∙ rw (f less, f equal)

    -- and what it leaves
    abbrev After : State → Type 0
    After q = Past (suc j) q × Flags (suc j) q.core

    ticks_on : (o : Offer) → j < n → due a.core o ≡ None → (1 ≤ j → Flags j a.core) → (tick_at p o a ≡ gives Ran made a.bytes) × After (next p o a)
    ticks_on o h undue f =
        let e = tick_is in
        (e, subst (λ t. After (record { core = t.core; bytes = t.bytes })) (sym e) (past_on, flags_on))
      where
        tick_is : tick_at p o a ≡ gives Ran made a.bytes
        tick_is = elim (dec_lt 0 j) [ yes g ↦ later_tick o h undue g (f g) | no g ↦ first_tick o h undue (omega arith) ]

  -- ---- the run, where nothing is due at any of its ticks
  module _ (b : k.busy ≡ 0) (v : Offers) (undue : (t : ℕ) → t < n → Past t (after p s v t) → due (after p s v t).core (v t) ≡ None) where
    reached : (j : ℕ) → j ≤ n → Past j (after p s v j) × (1 ≤ j → Flags j (after p s v j).core)
    unfolding iterated
    reached zero h = (
      record {
        regs = refl;
        sp = refl;
        here = omega arith;
        ready = b;
        inhibits = refl;
        serves = refl;
        same_bytes = refl;
        sreg_lt = sound.sreg_lt;
        t_kept = refl;
        i_kept = refl;
      },
      λ g. absurd (omega arith),
    )
    reached (suc j) h =
        let (x, f) = reached j (omega arith) in
        let (e, (y, g)) = ticks_on j (after p s v j) x (v j) (omega arith) (undue j (omega arith) x) f in
        (y, λ _. g)

    pub past : (j : ℕ) → j ≤ n → Past j (after p s v j)
    past j h = (reached j h).0

    pub runs : (j : ℕ) → j < n → number_at p s v j ≡ 18
    runs j h =
        let (x, f) = reached j (omega arith) in
        let (e, (y, g)) = ticks_on j (after p s v j) x (v j) h (undue j h x) f in
        rw e

    pub ticked : Ticked p s n d r v
    ticked =
        let (x, f) = reached n (omega arith) in
        record {
          compared = record {
            flags = f comparison.some;
            up_by_n = x.here;
            t_kept = x.t_kept;
            i_kept = x.i_kept;
            regs_kept = x.regs;
            sp_kept = x.sp;
          };
          same_bytes = x.same_bytes;
          ran = runs;
          ready = x.ready;
        }

    -- the end is reached first after n ticks
    pub first : k.in_service ≡ false → First (Ended p s n v) n
    first free =
        let x = past n (omega arith) in
        record {
          reached = record { there = x.here; ready = x.ready; free = x.serves ∙ free };
          not_before = λ u h e. omega (arith, e.there, (past u (omega arith)).here);
        }
