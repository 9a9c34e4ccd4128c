-- What a call that is done leaves and replies, and what a reply tells.
use Rattle.std.proofs.Common.{◌≡◌, ℕ, ◌<◌, Bool, true, false, eqb, ltb, List, length, is_some, Some, None, Ok, Err, Option, unwrap_or, sym, ap, ◌∙◌, ⊎_elim, arith}
use Rattle.std.proofs.lemmas.Bool.{cases_Bool, ltb-true, eqb-true, lt-ltb, eq-eqb}
use Rattle.store.specs.declared.StoreRefusal.{StoreRefusal}
use Rattle.store.specs.Store.{Store, at, with_at, put_after, clear_after, get_reply, get_after}

pub put_done : (s s' : Store) (place : ℕ) (b : List ℕ) → place < s.places → length b ≡ s.width → s' ≡ with_at s place (Some b)
    → s' ≡ put_after s place b
put_done s s' place b lt wide e = let x = lt-ltb place s.places lt in let y = eq-eqb (length b) s.width wide in simp (x, y) e

pub clear_done : (s s' : Store) (place : ℕ) → place < s.places → s' ≡ with_at s place None → s' ≡ clear_after s place
clear_done s s' place lt e = let x = lt-ltb place s.places lt in simp x e

pub get_done : (s : Store) (place : ℕ) (buffer buffer' : List ℕ) (held : Bool) (o : Option (List ℕ)) → place < s.places
    → length buffer ≡ s.width → at s place ≡ o → held ≡ is_some o → buffer' ≡ unwrap_or o buffer
    → (Ok held ≡ get_reply s place buffer) × (buffer' ≡ get_after s place buffer)
get_done s place buffer buffer' held o lt wide eo eh eb =
    let x = lt-ltb place s.places lt in
    let y = eq-eqb (length buffer) s.width wide in
    (simp (x, y) (ap Ok (eh ∙ ap is_some (sym eo))), simp (x, y) (eb ∙ ap (λ v. unwrap_or v buffer) (sym eo)))

-- what a block that came, or did not come, tells of the store
pub record Got (s : Store) (place : ℕ) (buffer : List ℕ) (held : Bool) : Type 0 where
  pub there : place < s.places
  pub wide : length buffer ≡ s.width
  pub found : held ≡ is_some (at s place)

pub get_tells : (s : Store) (place : ℕ) (buffer : List ℕ) (held : Bool) → Ok held ≡ get_reply s place buffer → Got s place buffer held
get_tells s place buffer held h =
    ⊎_elim
    (λ (x : ltb place s.places ≡ true).
    ⊎_elim
    (λ (y : eqb (length buffer) s.width ≡ true).
    let f : Ok held ≡ Ok (is_some (at s place)) = simp (x, y) at h in
    record { there = ltb-true place s.places x; wide = eqb-true (length buffer) s.width y; found = cc })
    (λ (y : eqb (length buffer) s.width ≡ false).
    let f : Ok held ≡ Err StoreRefusal.Length = simp (x, y) at h in let z : ◌≡◌ {A = ℕ} 0 1 = cc in absurd (omega arith))
    (cases_Bool (eqb (length buffer) s.width)))
    (λ (x : ltb place s.places ≡ false).
    let f : Ok held ≡ Err StoreRefusal.Place = simp x at h in let z : ◌≡◌ {A = ℕ} 0 1 = cc in absurd (omega arith))
    (cases_Bool (ltb place s.places))
