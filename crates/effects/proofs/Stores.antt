-- A store into the data space, in parts.
-- Assumes nothing.
use Rattle.std.proofs.Common.{◌≡◌, ℕ, ◌+◌, ◌*◌, ◌/◌, ◌%◌, Bool, true, false, eqb, List, get_or, set, sym, refl, ap, ne_eqb}
use Rattle.basis.specs.Pick.{pick}
use Rattle.cores.specs.declared.Core.{Core}
use Rattle.basis.specs.Bit.{up, down}
use Rattle.rule.specs.Rule.{store_waits}
use Rattle.cores.specs.State.{Out, out, Leaves, reg, with_regs, with_reg, with_word, with_sreg, with_pc, with_sp, with_busy, with_inhibit, with_service, with_chip}
use Rattle.cores.specs.Flow.{over_second}
use Rattle.cores.specs.Transfer.{set_data_of, pointed_of, word_if, push_of, st_of, sts_of}
use Rattle.cores.proofs.Space.{Elsewhere}
use Rattle.effects.specs.declared.transfer.Left.{Left}
use Rattle.effects.specs.Parts.{stood, cored, sreg_stored, sp_stored, bytes_stored, left_by, pointer_set, pointed_at, lowered}

-- ---- at an address that is none of the three
module _ (at : ℕ) (h : Elsewhere at) where
  pub sreg_elsewhere : (v s : ℕ) → sreg_stored at v s ≡ s
  sreg_elsewhere v s = rw (ne_eqb at 0x3F h.0.0.1)

  pub sp_elsewhere : (v sp : ℕ) → sp_stored at v sp ≡ sp
  sp_elsewhere v sp = rw (ne_eqb at 0x3F h.0.0.1, ne_eqb at 0x3E h.0.1, ne_eqb at 0x3D h.1)

  pub bytes_elsewhere : (v : ℕ) (m : List ℕ) → bytes_stored at v m ≡ set m at v
  bytes_elsewhere v m = rw (ne_eqb at 0x3F h.0.0.1, ne_eqb at 0x3E h.0.1, ne_eqb at 0x3D h.1)

-- ---- at any address: SREG, SP and the bytes each by itself
apart : (a b c : Bool) (k : Core) (v x y : ℕ) (m n : List ℕ)
    → pick a (out (with_sreg k v) m) (pick b (out (with_sp k x) m) (pick c (out (with_sp k y) m) (out k n)))
    ≡ out (with_sp (with_sreg k (pick a v k.sreg)) (pick a k.sp (pick b x (pick c y k.sp)))) (pick a m (pick b m (pick c m n)))
unfolding with_sp
apart true b c k v x y m n = refl
apart false true c k v x y m n = refl
apart false false true k v x y m n = refl
apart false false false k v x y m n = refl

-- ---- in parts: what a store leaves is given by `out` of a core in parts
leaves_by : {o : Out} {k : Core} {m : List ℕ} → o ≡ out k m → Leaves o k m
leaves_by e = record { core = ap (λ o. o.core) (sym e); bytes = ap (λ o. o.bytes) (sym e) }

-- the pointer p raised, from at
abbrev raised : ℕ → ℕ → Out → Out
raised p at o = out (with_word o.core p (up at 1)) o.bytes

module _ (pc sp s : ℕ) (i v chip : Bool) (m : List ℕ) where
  -- registers, busy, address and byte
  store : (rs : List ℕ) (busy at x : ℕ)
      → set_data_of (cored rs (stood pc sp s busy i v) chip) at x m
      ≡ out (cored rs (stood pc (sp_stored at x sp) (sreg_stored at x s) busy i v) chip) (bytes_stored at x m)
  unfolding set_data_of with_pc with_sp with_busy with_inhibit with_service with_chip
  store rs busy at x =
      apart (eqb at 0x3F) (eqb at 0x3E) (eqb at 0x3D) (cored rs (stood pc sp s busy i v) chip) x (x * 256 + sp % 256) (sp / 256 * 256 + x) m (set m at x)

  module _ (rs : List ℕ) (r : ℕ) where
    abbrev k : Core
    k = cored rs (stood pc sp s 0 i v) chip

    outs : (A : ℕ) → let x = get_or rs r 0 in
        set_data_of k A (reg k r) m ≡ out (cored rs (stood pc (sp_stored A x sp) (sreg_stored A x s) 0 i v) chip) (bytes_stored A x m)
    unfolding with_regs with_pc with_sp with_busy with_inhibit with_service with_chip
    outs A = store rs 0 A (get_or rs r 0)

    pub out_leaves : (A : ℕ) {t : Left} {m' : List ℕ} → let x = get_or rs r 0 in
        t ≡ left_by A x s sp 0 → m' ≡ bytes_stored A x m
        → Leaves (set_data_of k A (reg k r) m) (cored rs (stood pc t.sp t.sreg t.busy i v) chip) m'
    out_leaves A e f = rw (e, f) (leaves_by (outs A))

    pushes : let x = get_or rs r 0 in
        push_of k r m ≡ out (cored rs (stood pc (down (sp_stored sp x sp) 1) (sreg_stored sp x s) 0 i v) chip) (bytes_stored sp x m)
    unfolding with_regs with_pc with_sp with_busy with_inhibit with_service with_chip
    pushes = ap (λ (o : Out). out (with_sp o.core (down o.core.sp 1)) o.bytes) (store rs 0 sp (get_or rs r 0))

    pub push_leaves : {t : Left} {m' : List ℕ} {n : ℕ} → let x = get_or rs r 0 in
        t ≡ left_by sp x s sp 0 → m' ≡ bytes_stored sp x m → n ≡ down t.sp 1
        → Leaves (push_of k r m) (cored rs (stood pc n t.sreg t.busy i v) chip) m'
    push_leaves e f g = rw (g, e, f) (leaves_by pushes)

    stores_second : (at : ℕ) → let x = get_or rs r 0 in let o = sts_of k r at m in
        out (over_second o.core) o.bytes ≡ out (cored rs (stood (up pc 1) (sp_stored at x sp) (sreg_stored at x s) 1 i v) chip) (bytes_stored at x m)
    unfolding with_regs with_pc with_sp with_busy with_inhibit with_service with_chip
    stores_second at = ap (λ (o : Out). out (with_pc o.core (up o.core.pc 1)) o.bytes) (store rs 1 at (get_or rs r 0))

    pub sts_leaves : (at : ℕ) {t : Left} {m' : List ℕ} → let x = get_or rs r 0 in let o = sts_of k r at m in
        t ≡ left_by at x s sp 0 → m' ≡ bytes_stored at x m
        → Leaves (out (over_second o.core) o.bytes) (cored rs (stood (up pc 1) t.sp t.sreg 1 i v) chip) m'
    sts_leaves at e f = rw (e, f) (leaves_by (stores_second at))

    -- ST, by the pointer p with q added
    stores : (p q : ℕ) (dec inc : Bool) → let at = pointed_at rs p dec in let x = get_or (lowered rs p dec) r 0 in
        st_of k r p q dec inc m
        ≡ out (cored (pointer_set (lowered rs p dec) inc p (up at 1)) (stood pc (sp_stored (at + q) x sp) (sreg_stored (at + q) x s) (store_waits chip) i v) chip) (bytes_stored (at + q) x m)
    unfolding with_regs with_reg with_pc with_sp with_busy with_inhibit with_service with_chip pointed_of word_if
    stores p q true true = ap (raised p (pointed_at rs p true)) (store (lowered rs p true) (store_waits chip) (pointed_at rs p true + q) (get_or (lowered rs p true) r 0))
    stores p q true false = store (lowered rs p true) (store_waits chip) (pointed_at rs p true + q) (get_or (lowered rs p true) r 0)
    stores p q false true = ap (raised p (pointed_at rs p false)) (store rs (store_waits chip) (pointed_at rs p false + q) (get_or rs r 0))
    stores p q false false = store rs (store_waits chip) (pointed_at rs p false + q) (get_or rs r 0)

    pub st_leaves : (p q : ℕ) (dec inc : Bool) {t : Left} {rs' m' : List ℕ} → let at = pointed_at rs p dec in let x = get_or (lowered rs p dec) r 0 in
        t ≡ left_by (at + q) x s sp (store_waits chip) → rs' ≡ pointer_set (lowered rs p dec) inc p (up at 1) → m' ≡ bytes_stored (at + q) x m
        → Leaves (st_of k r p q dec inc m) (cored rs' (stood pc t.sp t.sreg t.busy i v) chip) m'
    st_leaves p q dec inc e f g = rw (e, f, g) (leaves_by (stores p q dec inc))
