-- Data space at an address that is neither SREG nor a byte of SP: the byte of data itself. At any address a store keeps all but SREG and SP.
-- Assumes nothing.
use Rattle.std.proofs.Common.{◌≡◌, ℕ, eqb, ltb, List, get_or, set, refl, ne_eqb}
use Rattle.basis.proofs.Choice.{either}
use Rattle.cores.specs.declared.Core.{Core}
use Rattle.cores.specs.State.{Out, out, with_sreg, with_sp}
use Rattle.cores.specs.Transfer.{reach_of, data_of, set_data_of}

-- as a `match` on 0x3F, 0x3E and 0x3D has it in its last arm
abbrev pub Elsewhere : ℕ → Type 0
Elsewhere at = ((Unit {0} × (at ≡ 0x3F → ⊥)) × (at ≡ 0x3E → ⊥)) × (at ≡ 0x3D → ⊥)

module _ (at : ℕ) (h : Elsewhere at) where
  pub reach_elsewhere : (n : ℕ) → reach_of at n ≡ ltb at n
  unfolding reach_of
  reach_elsewhere n = rw (ne_eqb at 0x3F h.0.0.1, ne_eqb at 0x3E h.0.1, ne_eqb at 0x3D h.1)

  pub data_elsewhere : (k : Core) (m : List ℕ) → data_of k at m ≡ get_or m at 0
  unfolding data_of
  data_elsewhere k m = rw (ne_eqb at 0x3F h.0.0.1, ne_eqb at 0x3E h.0.1, ne_eqb at 0x3D h.1)

  pub set_data_elsewhere : (k : Core) (v : ℕ) (m : List ℕ) → set_data_of k at v m ≡ out k (set m at v)
  unfolding set_data_of
  set_data_elsewhere k v m = rw (ne_eqb at 0x3F h.0.0.1, ne_eqb at 0x3E h.0.1, ne_eqb at 0x3D h.1)

-- whatever is seen of a core but SREG and SP
pub store_keeps : {A : Type 0} (see : Core → A) → ((k : Core) (v : ℕ) → see (with_sreg k v) ≡ see k) → ((k : Core) (v : ℕ) → see (with_sp k v) ≡ see k)
    → (k : Core) (at v : ℕ) (m : List ℕ) → see (set_data_of k at v m).core ≡ see k
unfolding set_data_of
store_keeps see sreg sp k at v m =
    let P : Out → Type 0 = λ o. see o.core ≡ see k in
    either P (eqb at 0x3F) _ _ (sreg k _) (either P (eqb at 0x3E) _ _ (sp k _) (either P (eqb at 0x3D) _ _ (sp k _) refl))

pub store_regs : (k : Core) (at v : ℕ) (m : List ℕ) → (set_data_of k at v m).core.regs ≡ k.regs
unfolding with_sp
store_regs = store_keeps (λ k. k.regs) (λ k v. refl) (λ k v. refl)
