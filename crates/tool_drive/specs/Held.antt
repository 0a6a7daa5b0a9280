-- From what reading comes to, to what stands in the files: for the laws and proofs of tools.
use Rattle.std.specs.Prelude.{◌≡◌, ◌≤◌, ℕ, Bool, true, false, cond, List, [], ◌∷◌, Option, None, Some, length, nat_le, refl}
use Rattle.std.proofs.Common.{◌∙◌, ap, subst, arith}
use Rattle.std.specs.FinMap.{get}
use Rattle.vlsi_shelf.specs.Files.{Files}
use Rattle.vlsi_base.specs.declared.limits.TheConstants.{MOST_SOURCE_BYTES}
use Rattle.tool_drive.specs.declared.tool.Wanted.{Wanted}
use Rattle.tool_drive.specs.Plan.{Reading, got, lacking, long, go_on, limited, held, gather}

-- a file that isn't longer than it may be has these bytes
pub record Holds (files : Files) (name bytes : List ℕ) : Type 0 where
  pub is : get files name ≡ Some bytes
  pub fits : length bytes ≤ MOST_SOURCE_BYTES

-- file by file, this was had
abbrev pub AreHad : Files → List Wanted → List (List ℕ) → Type 0
AreHad files [] [] = Unit {0}
AreHad files (w ∷ ws) (bytes ∷ rest) = (held (get files w.name) w ≡ got bytes) × AreHad files ws rest
AreHad files _ _ = ⊥

-- ---- lemmas

got_same : {A : Type 0} (a b : A) → got a ≡ got b → a ≡ b
got_same a b e = cc e

pub are_had : (files : Files) (ws : List Wanted) (read : List (List ℕ)) → gather files ws ≡ got read → AreHad files ws read
are_had files [] [] h = tt
are_had files [] (bytes ∷ rest) h = absurd (cc h)
are_had files (w ∷ ws) read h = by (held (get files w.name) w) (gather files ws) read (λ rest f. are_had files ws rest f) refl refl h where
  by : (one : Reading (List ℕ)) (more : Reading (List (List ℕ))) (read : List (List ℕ)) → ((rest : List (List ℕ)) → gather files ws ≡ got rest → AreHad files ws rest) → held (get files w.name) w ≡ one → gather files ws ≡ more
      → go_on one (λ bytes. go_on more (λ rest. got (bytes ∷ rest))) ≡ got read → AreHad files (w ∷ ws) read
  by (got bytes) (got rest) read again e f h =
      subst (λ (r : List (List ℕ)). AreHad files (w ∷ ws) r) (got_same (bytes ∷ rest) read h) (e, again rest f)
  by (got bytes) (lacking name) read again e f h = absurd (cc h)
  by (got bytes) (long most) read again e f h = absurd (cc h)
  by (lacking name) more read again e f h = absurd (cc h)
  by (long most) more read again e f h = absurd (cc h)

fitting : (files : Files) (name content bytes : List ℕ) (b : Bool) → get files name ≡ Some content → nat_le (length content) MOST_SOURCE_BYTES ≡ b
    → cond b (got content) (long MOST_SOURCE_BYTES) ≡ got bytes → Holds files name bytes
fitting files name content bytes true e f h =
    let same = got_same content bytes h in
    record { is = e ∙ ap (λ (x : List ℕ). Some x) same; fits = subst (λ (x : List ℕ). length x ≤ MOST_SOURCE_BYTES) same (grind (arith, f)) }
fitting files name content bytes false e f h = absurd (cc h)

-- a file that was had whole
pub holds : (files : Files) (name bytes : List ℕ) → held (get files name) (limited name) ≡ got bytes → Holds files name bytes
holds files name bytes h = by (get files name) refl h where
  by : (found : Option (List ℕ)) → get files name ≡ found → held found (limited name) ≡ got bytes → Holds files name bytes
  by None e h = absurd (cc h)
  by (Some content) e h = fitting files name content bytes (nat_le (length content) MOST_SOURCE_BYTES) e refl h
