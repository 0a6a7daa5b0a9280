-- A turn of the search for the least two places of one class, from a place to the one before it.
use Rattle.std.proofs.Common.{◌≡◌, ℕ, ◌+◌, ◌<◌, ◌≤◌, List, length, get_or, Option, None, Some, sym, subst, arith}
use Rattle.std.specs.Prelude.{slice_set}
use Rattle.std.proofs.lemmas.List.{get_or_read}
use Rattle.cougar_extract.specs.Stages.{nearer_of, IsPairFrom, IsNext, AreNext}
use Rattle.cougar_extract.proofs.LeastPairs.{next_step, pair_step}

module _ (classes : List ℕ) (from k : ℕ) (next : List (Option ℕ)) (is : from ≡ k + 1) (most : from ≤ length classes) (room : get_or classes k 0 < length next)
    (are : AreNext classes from next) where
  later : AreNext classes (k + 1) next
  later = subst (λ (j : ℕ). AreNext classes j next) is are

  pub next_turn : AreNext classes k (slice_set next (get_or classes k 0) (Some k))
  next_turn = next_step classes k next (omega (arith, is, most)) room later

  pub pair_turn : (o : Option ℕ) (found now : Option (ℕ × ℕ)) → o ≡ get_or next (get_or classes k 0) o → IsPairFrom classes from found → now ≡ nearer_of o k found → IsPairFrom classes k now
  pair_turn o found now read behind made =
      let own : o ≡ get_or next (get_or classes k 0) None = get_or_read next (get_or classes k 0) o room read None in
      let near : IsNext classes (k + 1) (get_or classes k 0) o =
      subst (λ (x : Option ℕ). IsNext classes (k + 1) (get_or classes k 0) x) (sym own) (later (get_or classes k 0) room) in
      let pair : IsPairFrom classes (k + 1) found = subst (λ (j : ℕ). IsPairFrom classes j found) is behind in
      subst (λ (x : Option (ℕ × ℕ)). IsPairFrom classes k x) (sym made) (pair_step classes k o found (omega (arith, is, most)) near pair)
