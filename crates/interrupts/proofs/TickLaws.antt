-- The laws of demand 3, of 01's tick.
-- Assumes nothing.
use mathlib.Core.Path.{◌≡◌, refl, sym, ap, ◌∙◌, subst}
use mathlib.Core.Logic.{◌⊎◌, inl, inr}
use mathlib.Core.Bool.{Bool, true, false, ◌&&◌}
use mathlib.Core.List.{List, []}
use Prim.Native.Nat.{ℕ, suc, ◌+◌, ◌/◌, ◌%◌, ◌≤◌, ◌<◌}
use native.Mathlib.Omega.{arith}
use borrow.Author.Tests.{leb-true, ne_eqb}
use lib.Dec.{eqb, leb}
use Rattle.basis.specs.Bit.{up}
use Rattle.basis.proofs.Choice.{clash}
use Rattle.basis.proofs.Both.{both_true}
use Rattle.instruction.specs.Decode.{decode_of}
use Rattle.instruction.specs.declared.Instruction.{Instruction}
use Rattle.instruction.specs.declared.Instruction.TheVariants.{RETI}
use Rattle.memory.specs.Memory.{has_of, has_word_of}
use Rattle.cores.specs.declared.Core.{Core}
use Rattle.cores.specs.Flow.{op_at}
use Rattle.cores.specs.State.{fresh_of, with_regs, with_pc, with_sp, with_busy, with_inhibit, with_service, with_chip}
use Rattle.execute.specs.Needs.{refusal, push_needs, needs, fetched, with_fetch}
use Rattle.execute.specs.Execute.{executed}
use Rattle.tick.specs.Tick.{Tick, gives, decided, due, entry, executed_tick, stepped, enters_or_steps, tick_of, number_of}
use Rattle.execute.specs.declared.Done.{Done}
use Rattle.tick.specs.Offer.{Offer}
use Rattle.std.specs.Prelude.{Some, None}
use Rattle.tick.specs.declared.Answer.TheVariants.{Ran}
use Rattle.invariants.specs.Instructions.{inhibited_by}
use Rattle.invariants.proofs.Controls.{only_reti_and_sei_touch_the_flags}
use Rattle.invariants.proofs.Ticks.{done_enters_not}
use Rattle.invariants.proofs.Rule.{ticks_keep_the_rule}
use Rattle.tick.proofs.Steps.{busy_tick, onward, every_tick}
use Rattle.interrupts.specs.RegisterOnly.{Kind, register_only, return, other, kind_of, is_return}
use Rattle.interrupts.specs.Interrupts.{State, Kept, kept, pc, sp, tick_at, next, Stretch}
use Rattle.interrupts.specs.Machine.{Machine, Laws, Waits, Runs, Enters, Returns}
use Rattle.interrupts.proofs.Steps.{none_due, inhibited_due, serving_due, calm_due, undue_tick}
use Rattle.interrupts.proofs.Instructions.{kept_of, with_kept, fresh_under, does_of, waits_of, Fact, fact}
use Rattle.interrupts.proofs.Stack.{low_byte, high_byte, met, push_room}

-- ---- 01's core with its data, as a machine
abbrev number : Tick → ℕ
number t = number_of t.answer

abbrev state_of : Tick → State
state_of t = record { core = t.core; bytes = t.bytes }

abbrev enters_in : Tick → Bool
enters_in t = eqb (number t) 17

-- from PC x
abbrev returns_in : List ℕ → ℕ → Tick → Bool
returns_in p x t = eqb (number t) 18 && is_return (kind_of (op_at decode_of p x))

abbrev pub avr : List ℕ → Machine
avr p =
    record {
      State = State;
      Offer = Offer;
      Kept = Kept;
      Rule = Bool;
      none = None;
      tick = next p;
      Allowed = λ o s. 16 ≤ number (tick_at p o s);
      Plain = λ o s. (number (tick_at p o s) ≡ 16) ⊎ (number (tick_at p o s) ≡ 18);
      enters = λ o s. enters_in (tick_at p o s);
      returns = λ o s. returns_in p (pc s) (tick_at p o s);
      kept = kept;
      pc = pc;
      sp = sp;
      busy = λ s. s.core.busy;
      inhibit = λ s. s.core.inhibit;
      service = λ s. s.core.in_service;
      rule = λ s. s.core.chip;
      bytes = λ s. s.bytes;
    }

module _ (p : List ℕ) where
  -- ---- a busy tick
  wait_law : (o : Offer) (s : State) (b : ℕ) → s.core.busy ≡ suc b → b < 4
      → ((number (tick_at p o s) ≡ 16) ⊎ (number (tick_at p o s) ≡ 18)) × (enters_in (tick_at p o s) ≡ false) × Waits (avr p) s (next p o s) b
  unfolding with_busy
  wait_law o s b h small =
      let e = busy_tick s.core p s.bytes o b h small in
      (inl (rw e), rw e, record { kept' = rw e; sp' = rw e; pc' = rw e; busy' = rw e; inhibit' = rw e; service' = rw e; bytes' = rw e })

  -- ---- an instruction of the stretch
  -- the core after it
  abbrev ran_on : Core → Instruction → Core
  ran_on k op = with_busy (with_kept (inhibited_by op (onward k)) (does_of k.chip op (kept_of k))) (waits_of k.chip op)

  idle : (k : Core) → k.busy ≡ 0 → with_busy k 0 ≡ k
  unfolding with_busy
  idle k h = ap (with_busy k) (sym h)

  listed : (op : Instruction) (k : Core) (m : List ℕ) → kind_of op ≡ register_only → Fact register_only op k p m
  listed op k m l = subst (λ x. Fact x op k p m) l (fact op k p m)

  stepped_listed : (op : Instruction) (k : Core) (m : List ℕ) → k.busy ≡ 0 → has_word_of p k.pc ≡ true → kind_of op ≡ register_only
      → decided (with_fetch (fetched p k.pc op) (needs decode_of (onward k) op p m)) k m (executed_tick (executed decode_of (onward k) op p m)) ≡ gives Ran (ran_on k op) m
  unfolding with_inhibit with_pc
  stepped_listed op k m b there l =
      let (runs, nothing-needed, one_word, brief) = listed op (onward k) m l in
      let same = ap (λ (i : Core). executed decode_of i op p m) (sym (idle (onward k) b)) in
      rw (nothing-needed, one_word, there, same, runs)

  -- at an instruction of the list, with data m
  module _ (k : Core) (m : List ℕ) (b : k.busy ≡ 0) (h : k.pc < 65535) (there : has_word_of p k.pc ≡ true)
      (l : kind_of (op_at decode_of p k.pc) ≡ register_only) where
    abbrev op : Instruction
    op = op_at decode_of p k.pc

    -- with no vector due
    run_tick : (o : Offer) → due k o ≡ None → tick_of k p m o ≡ gives Ran (ran_on k op) m
    unfolding enters_or_steps stepped with_inhibit
    run_tick o d = undue_tick k p m o b d ∙ rw (ne_eqb k.pc 65535 (omega arith)) (stepped_listed op k m b there l)

    abbrev RunsIn : Tick → Type 0
    RunsIn t = Runs (avr p) (record { core = k; bytes = m }) (state_of t) (does_of k.chip op (kept_of k)) (waits_of k.chip op)

    runs : RunsIn (gives Ran (ran_on k op) m)
    unfolding with_regs with_busy with_pc with_inhibit
    runs = record { kept' = refl; sp' = refl; pc' = omega arith; busy' = refl; service' = refl; bytes' = refl }

    -- whatever is offered, a tick that neither enters nor is refused
    run_free : (o : Offer) → 16 ≤ number (tick_of k p m o) → enters_in (tick_of k p m o) ≡ false → RunsIn (tick_of k p m o)
    run_free o a e = rw (run_tick o (calm_due k p m o b a e)) runs

    calm_tick : tick_of k p m None ≡ gives Ran (ran_on k op) m
    calm_tick = run_tick None (none_due k)

  -- ---- nothing due: nothing enters
  -- what the instruction at PC answers
  abbrev done_by : Core → List ℕ → Done
  done_by k m = (executed decode_of (onward k) (op_at decode_of p k.pc) p m).done

  none_enters : (o : Offer) (s : State) → due s.core o ≡ None → enters_in (tick_at p o s) ≡ false
  none_enters o s h =
      every_tick decode_of (λ t. enters_in t ≡ false) s.core p s.bytes o (λ n g l. ne_eqb n 17 (omega arith)) (λ g l. refl)
      (λ b v e r. let z : Some v ≡ None = sym e ∙ h in cc) (λ b e l. refl) (λ b e l r. done_enters_not (done_by s.core s.bytes))

  -- ---- an entry
  entry_stores : (k : Core) (m : List ℕ) (v : ℕ) → refusal (push_needs k m) ≡ 0
      → Enters (avr p) (record { core = k; bytes = m }) (record { core = (entry k v m).core; bytes = (entry k v m).bytes })
  unfolding with_service
  entry_stores k m v r =
      let (two, there) = push_room k m r in
      record {
        service' = refl;
        low = λ f. low_byte m k.sp (k.pc % 256) (k.pc / 256) two there f;
        high = λ f. high_byte m k.sp (k.pc % 256) (k.pc / 256) two there f;
      }

  enter_law : (o : Offer) (s : State) → enters_in (tick_at p o s) ≡ true → Enters (avr p) s (next p o s)
  enter_law o s =
      let k = s.core in
      let m = s.bytes in
      every_tick decode_of (λ t. enters_in t ≡ true → Enters (avr p) s (state_of t)) k p m o
      (λ n g l z. clash (sym z ∙ ne_eqb n 17 (omega arith)))
      (λ g l z. clash (sym z))
      (λ b v e r z. entry_stores k m v r)
      (λ b e l z. clash (sym z))
      (λ b e l r z. clash (sym z ∙ done_enters_not (done_by k m)))

  -- ---- in service
  serving_step : (op : Instruction) (c : Kind) (i : Core) (m : List ℕ) → i.busy ≡ 0 → Fact c op i p m
      → (eqb (number (executed_tick (executed decode_of i op p m))) 18 && is_return c) ≡ false → (executed decode_of i op p m).core.in_service ≡ i.in_service
  unfolding with_regs with_busy with_inhibit
  serving_step op register_only i m b f r = rw (ap (λ (i : Core). executed decode_of i op p m) (sym (idle i b)), f.0)
  serving_step op return i m b f r = clash (subst (λ op. (eqb (number (executed_tick (executed decode_of i op p m))) 18 && true) ≡ false) f r)
  serving_step op other i m b f r = (only_reti_and_sei_touch_the_flags decode_of op i p m).1 ∙ rw f

  serve_law : (o : Offer) (s : State) → s.core.in_service ≡ true → returns_in p (pc s) (tick_at p o s) ≡ false → (next p o s).core.in_service ≡ true
  unfolding with_busy with_inhibit with_pc with_service
  serve_law o s h =
      let k = s.core in
      let op = op_at decode_of p (pc s) in
      every_tick decode_of (λ t. returns_in p (pc s) t ≡ false → t.core.in_service ≡ true) k p s.bytes o
      (λ n g l r. h) (λ g l r. h) (λ b v e x r. refl) (λ b e l r. h)
      (λ b e l x r. serving_step op (kind_of op) (onward k) s.bytes b (fact op (onward k) p s.bytes) r ∙ h)

  -- ---- RETI
  kind_return : (op : Instruction) → is_return (kind_of op) ≡ true → op ≡ RETI
  kind_return op h = go (kind_of op) h (fact op (fresh_of 0) p [])
    where
      go : (c : Kind) → is_return c ≡ true → Fact c op (fresh_of 0) p [] → op ≡ RETI
      go register_only h f = clash (sym h)
      go return h f = f
      go other h f = clash (sym h)

  reti : (k : Core) (m : List ℕ) → refusal (with_fetch (fetched p k.pc RETI) (needs decode_of (onward k) RETI p m)) ≡ 0
      → Returns (avr p) (record { core = k; bytes = m }) (state_of (executed_tick (executed decode_of (onward k) RETI p m)))
  unfolding with_service with_inhibit with_busy with_pc with_sp
  reti k m r =
      let (low, there) = met (fetched p k.pc RETI && true) (leb k.sp 65533) (has_of m (k.sp + 2)) r in
      let room : k.sp < 65534 = omega (arith, leb-true k.sp 65533 low) in
      let one_up : up k.sp 1 ≡ k.sp + 1 = omega arith in
      let two_up : up k.sp 2 ≡ k.sp + 2 = omega arith in
      record { room = room; kept' = refl; sp' = two_up; pc' = rw (one_up, two_up); busy' = refl; inhibit' = refl; service' = refl }

  reti_tick : (o : Offer) (k : Core) (m : List ℕ) → op_at decode_of p k.pc ≡ RETI → eqb (number (tick_of k p m o)) 18 ≡ true
      → Returns (avr p) (record { core = k; bytes = m }) (state_of (tick_of k p m o))
  reti_tick o k m op =
      let Back : Tick → Type 0 = λ t. Returns (avr p) (record { core = k; bytes = m }) (state_of t) in
      let Met : Instruction → Type 0 = λ op. refusal (with_fetch (fetched p k.pc op) (needs decode_of (onward k) op p m)) ≡ 0 in
      every_tick decode_of (λ t. eqb (number t) 18 ≡ true → Back t) k p m o
      (λ n g l z. clash (sym z ∙ ne_eqb n 18 (omega arith)))
      (λ g l z. clash (sym z))
      (λ b v e x z. clash (sym z))
      (λ b e l z. clash (sym z))
      (λ b e l x z. subst (λ op. Met op → Back (executed_tick (executed decode_of (onward k) op p m))) (sym op) (reti k m) x)

  pub reti_law : (o : Offer) (s : State) → returns_in p (pc s) (tick_at p o s) ≡ true → Returns (avr p) s (next p o s)
  reti_law o s h =
      let (ran, is) = both_true (eqb (number (tick_at p o s)) 18) (is_return (kind_of (op_at decode_of p (pc s)))) h in
      reti_tick o s.core s.bytes (kind_return (op_at decode_of p (pc s)) is) ran

  -- ---- all of them, of a stretch
  cheap_under : (chip : Bool) (op : Instruction) → kind_of op ≡ register_only → leb (waits_of chip op) 1 ≡ true
  unfolding with_chip
  cheap_under chip op l = (listed op (fresh_under chip) [] l).3

  pub tick_laws : (start finish : ℕ) → Stretch p start finish → Laws (avr p) start finish
  tick_laws start finish S =
      record {
        does = λ chip x. does_of chip (op_at decode_of p x);
        cost = λ chip x. waits_of chip (op_at decode_of p x);
        cheap = λ chip x a b. leb-true (waits_of chip (op_at decode_of p x)) 1 (cheap_under chip (op_at decode_of p x) (S.list x a b));
        ruled = λ o s. ticks_keep_the_rule s.core p s.bytes o;
        wait = wait_law;
        calm = λ s i.
            let there = S.there (pc s) i.above i.below in
            let e = calm_tick s.core s.bytes i.ready (omega (arith, i.below, S.ends)) there (S.list (pc s) i.above i.below) in
            (inr (rw e), rw e (omega arith), rw e);
        run = λ o s i.
            let there = S.there (pc s) i.above i.below in
            run_free s.core s.bytes i.ready (omega (arith, i.below, S.ends)) there (S.list (pc s) i.above i.below) o;
        enter = enter_law;
        inhibited = λ o s h. none_enters o s (inhibited_due s.core o h);
        serving = λ o s h. none_enters o s (serving_due s.core o h);
        serve = serve_law;
        reti = reti_law;
      }
