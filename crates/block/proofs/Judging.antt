-- What a list of symbols is judged to be: a codeword, one symbol from a codeword, or neither.
use Rattle.std.proofs.Common.{◌≡◌, ℕ, zero, suc, ◌-◌, ◌<◌, ◌≤◌, false, not, eqb, ◌≢◌, List, [], ◌∷◌, length, get_or, set, Some, None, Option, sym, refl, ap, ◌∙◌, subst, inl, inr, le_of_suc-le-suc, arith, length-set}
use native.Mathlib.Decide.{ℕ_discrete}
use lib.Seq.{set-get_or}
use Rattle.std.proofs.lemmas.Bool.{not_from_false, ne_eqb}
use Rattle.std.proofs.lemmas.Bool.Decides.{nat_tests}
use Rattle.field.specs.Systems.{System, Symbol}
use Rattle.field.proofs.Symbols.{symbol_path}
use Rattle.code.specs.Codewords.{Symbols, Codeword, differences}
use Rattle.code.specs.Acceptance.{Near, Accepted}
use Rattle.code.proofs.Apartness.{OneOff, one_off, distance_self, distance_set}
use Rattle.code.proofs.Reach.{acceptance_one}
use Rattle.code.proofs.Trying.{nearest, nearest_accepted, nearest_only}
use Rattle.block.specs.Conditions.{first_true, symbols_in, judgement, Says, ConditionsSay}
use Rattle.block.specs.declared.condition.Condition.{Condition}
use Rattle.block.specs.declared.condition.Condition.TheVariants.{Blank, WrongId, Clean, Corrected, OutOfReach}

module _ {q : ℕ} where
  same_code : (x : Symbol q) → not (eqb x.code x.code) ≡ false
  same_code x = grind (arith, nat_tests)

  none_differ : (xs : List (Symbol q)) → first_true (differences xs xs) ≡ None
  none_differ [] = refl
  none_differ (x ∷ xs) = rw (same_code x, none_differ xs) refl

  first_differs : (xs : List (Symbol q)) (p : ℕ) (v d : Symbol q) → p < length xs → get_or xs p d ≢ v → first_true (differences xs (set xs p v)) ≡ Some p
  first_differs [] p v d l n = absurd (omega arith)
  first_differs (x ∷ xs) zero v d l n =
      rw (not_from_false (eqb x.code v.code) (ne_eqb x.code v.code (λ e. n (symbol_path x v e)))) refl
  first_differs (x ∷ xs) (suc p) v d l n = rw (same_code x, first_differs xs p v d (le_of_suc-le-suc l) n) refl

module _ (s : System) (xs : Symbols s) where
  pub clean_judged : judgement s xs (Some xs) ≡ Clean
  clean_judged = rw (none_differ xs, judgement)

  pub corrected_judged : (p : ℕ) (v d : Symbol s.order) → p < length xs → get_or xs p d ≢ v → judgement s xs (Some (set xs p v)) ≡ Corrected p
  corrected_judged p v d l n = rw (first_differs xs p v d l n, judgement)

module _ (s : System) (c : ℕ) (xs : Symbols s) (enough : 2 ≤ c) (short : length xs ≤ s.order - 1) where
  near_self : Codeword s c xs → Near s 1 c xs xs
  near_self h = record { long = refl; codeword = h; near = omega (arith, distance_self xs) }

  near_set : (p : ℕ) (v : Symbol s.order) → Codeword s c (set xs p v) → Near s 1 c xs (set xs p v)
  near_set p v h = record { long = length-set xs p v; codeword = h; near = distance_set xs p v }

  near_is_accepted : (w : Symbols s) → Near s 1 c xs w → Accepted s 1 c xs (Some w)
  near_is_accepted w n = (n, (λ v m. acceptance_one s 1 c xs short (omega arith) v w m n))

  judged_as : (o : Option (Symbols s)) → Accepted s 1 c xs o → nearest s 1 c xs ≡ o
  judged_as o a = sym (nearest_only s 1 c xs short (omega arith) o a)

  -- a codeword is judged whole
  pub judged_clean : Codeword s c xs → (nearest s 1 c xs ≡ Some xs) × (judgement s xs (Some xs) ≡ Clean)
  judged_clean h = (judged_as (Some xs) (near_is_accepted xs (near_self h)), clean_judged s xs)

  -- a list that one other symbol makes a codeword is judged corrected at its place
  pub judged_corrected : (w : Symbols s) (p : ℕ) (v d : Symbol s.order) → Accepted s 1 c xs (Some w) → w ≡ set xs p v → get_or xs p d ≢ v → p < length xs
      → (nearest s 1 c xs ≡ Some w) × (judgement s xs (Some w) ≡ Corrected p)
  judged_corrected w p v d a e n l =
      (judged_as (Some w) a, ap (λ (z : Symbols s). judgement s xs (Some z)) e ∙ corrected_judged s xs p v d l n)

  -- a list with no codeword within one symbol is judged to be no word
  pub judged_out : Accepted s 1 c xs None → (nearest s 1 c xs ≡ None) × (judgement s xs None ≡ OutOfReach)
  judged_out a = (judged_as None a, refl)

  -- what is said of a list is what it is judged to be
  only : (k : Condition) → Says s c xs k → k ≡ judgement s xs (nearest s 1 c xs)
  only Blank h = absurd h
  only WrongId h = absurd h
  only Clean h = rw (judged_clean h).0 (sym (judged_clean h).1)
  only (Corrected p) h =
      let v = h.2.0 in
      let word = h.2.1 in
      let d = s.on.nil in
      let changed : get_or xs p d ≢ v = λ e. h.0 (subst (Codeword s c) (ap (set xs p) (sym e) ∙ set-get_or xs p d) word) in
      let both = judged_corrected (set xs p v) p v d (near_is_accepted (set xs p v) (near_set p v word)) refl changed h.1 in
      rw both.0 (sym both.1)
  only OutOfReach h =
      let out : Accepted s 1 c xs None = λ w n. refuse w n (one_off s.on.nil xs w (sym n.long) n.near) in
      rw (judged_out out).0 refl
    where
      refuse : (w : Symbols s) → Near s 1 c xs w → OneOff s.on.nil xs w → ⊥
      refuse w n (inl e) = h.0 (subst (Codeword s c) (sym e) n.codeword)
      refuse w n (inr f) = h.1 f.0 (get_or w f.0 s.on.nil) f.1 (subst (Codeword s c) f.2 n.codeword)

  -- something is said of every list
  some : (o : Option (Symbols s)) → Accepted s 1 c xs o → (k : Condition) × Says s c xs k
  some None a = (OutOfReach, ((λ h. a xs (near_self h)), (λ p v l h. a (set xs p v) (near_set p v h))))
  some (Some w) a = go (one_off d xs w (sym a.0.long) a.0.near)
    where
      d : Symbol s.order
      d = s.on.nil

      whole : xs ≡ w → (k : Condition) × Says s c xs k
      whole e = (Clean, subst (Codeword s c) (sym e) a.0.codeword)

      go : OneOff d xs w → (k : Condition) × Says s c xs k
      go (inl e) = whole e
      go (inr f) = decide (ℕ_discrete (get_or xs f.0 d).code (get_or w f.0 d).code)
        where
          decide : Dec ((get_or xs f.0 d).code ≡ (get_or w f.0 d).code) → (k : Condition) × Says s c xs k
          decide (yes e) =
              whole (sym (set-get_or xs f.0 d) ∙ ap (set xs f.0) (symbol_path (get_or xs f.0 d) (get_or w f.0 d) e) ∙ sym f.2)
          decide (no n) = (
            Corrected f.0,
            (
              (λ h. n (ap (λ (z : Symbols s). (get_or z f.0 d).code) (a.1 xs (near_self h)))),
              f.1,
              (get_or w f.0 d, subst (Codeword s c) f.2 a.0.codeword),
            ),
          )

  says_one : Says s c xs (judgement s xs (nearest s 1 c xs)) × ((k : Condition) → Says s c xs k → k ≡ judgement s xs (nearest s 1 c xs))
  says_one =
      let said = some (nearest s 1 c xs) (nearest_accepted s 1 c xs short (omega arith)) in
      (subst (Says s c xs) (only said.0 said.1) said.1, only)

pub conditions_say : (s : System) → ConditionsSay s
conditions_say s c body enough short = says_one s c (symbols_in s body) enough short
