-- Marks of the bits that assignments name.
use Rattle.std.proofs.Common.{◌≡◌, ◌≢◌, ℕ, ◌+◌, ◌<◌, Bool, true, false, List, [], ◌∷◌, ◌++◌, map, take, length, get_or, refl, sym, ap, subst, ◌∙◌, append_assoc, append-nil, arith}
use Rattle.std.specs.Prelude.{◌||◌, slice_set, replicate}
use Rattle.std.proofs.lemmas.List.{get_or-replicate, length-replicate, length-set, get_or-set_same, get_or-set_other, take_more, map_push}
use Rattle.std.proofs.lemmas.List.Concat.{flat_map-append}
use Rattle.std.specs.List.{flat_map}
use Rattle.std.proofs.lemmas.Bool.{false≢true}
use Rattle.vlsi_base.specs.declared.name.Name.{Name}
use Rattle.vlsi_base.specs.Member.{In}
use Rattle.machine_core.specs.Named.{is_same_name}
use Rattle.source_checks.specs.declared.symbol_table.Symbol.{Symbol}
use Rattle.source_checks.specs.Symbols.{all_names}
use Rattle.source_checks.specs.Drivers.{is_among}
use Rattle.source_checks.specs.Formula.{place}
use Rattle.source_checks.proofs.Names.{is_among-append}
use Rattle.vlsi_model.proofs.Sorting.{same_name_decides}
use Rattle.vlsi_model.proofs.Numbering.{place_within, place_same}
use Rattle.fsm_io.specs.declared.mentions.Mention.{Mention as Held}
use Rattle.fsm_io.specs.Looks.{Mention}
use Rattle.fsm_io.specs.Pieces.{AreMarked, mark_each, mention_of}

-- nothing is marked yet
pub marked_none : (known : List Symbol) (marks : List Bool) → marks ≡ replicate (length (all_names known)) false → AreMarked known [] marks
marked_none known marks e = record {
  each = ap length e ∙ length-replicate (length (all_names known)) false;
  marked = λ n i. ap (λ (ms : List Bool). get_or ms (place (all_names known) n) false) e ∙ get_or-replicate (length (all_names known)) (place (all_names known) n) false false (place_within (all_names known) n i);
}

or_true : (a : Bool) → (a || true) ≡ true
or_true true = refl
or_true false = refl

or_false : (a : Bool) → (a || false) ≡ a
or_false true = refl
or_false false = refl

marked_one : (known : List Symbol) (names : List Name) (marks : List Bool) (n : Name) → AreMarked known names marks → AreMarked known (names ++ n ∷ []) (slice_set marks (place (all_names known) n) true)
marked_one known names marks n m = record {
  each = length-set marks (place (all_names known) n) true ∙ m.each;
  marked = λ k i. by k i (is_same_name n k) refl ∙ sym (is_among-append names (n ∷ []) k);
} where
  all : List Name
  all = all_names known

  by : (k : Name) → In k all → (b : Bool) → is_same_name n k ≡ b → get_or (slice_set marks (place all n) true) (place all k) false ≡ (is_among names k || (b || false))
  by k i true e =
      let same : n ≡ k = (same_name_decides n k).0 e in
      let within : place all n < length marks = let here = place_within all k i in let there : place all n ≡ place all k = ap (place all) same in let long = m.each in omega (arith, here, there, long) in
      ap (λ (p : ℕ). get_or (slice_set marks (place all n) true) p false) (sym (ap (place all) same)) ∙ get_or-set_same marks (place all n) true false within ∙ sym (or_true (is_among names k))
  by k i false e =
      let apart : place all k ≢ place all n = λ h. false≢true (sym e ∙ (same_name_decides n k).1 (sym (place_same all k n i h))) in
      get_or-set_other marks (place all n) (place all k) true false apart ∙ m.marked k i ∙ sym (or_false (is_among names k))

-- the bits of names are marked
pub marked_more : (known : List Symbol) (names : List Name) (marks : List Bool) (more : List Name) → AreMarked known names marks → AreMarked known (names ++ more) (mark_each marks (map (place (all_names known)) more))
marked_more known names marks [] m = subst (λ (ns : List Name). AreMarked known ns marks) (sym (append-nil names)) m
marked_more known names marks (n ∷ more) m =
    let marks' = slice_set marks (place (all_names known) n) true in
    subst (λ (ns : List Name). AreMarked known ns (mark_each marks' (map (place (all_names known)) more))) (append_assoc names (n ∷ []) more)
    (marked_more known (names ++ n ∷ []) marks' more (marked_one known names marks n m))

-- the names of one place more
pub names_more : (f : Mention → List Name) (ms : List Held) (i : ℕ) (x : Held) → i < length ms → x ≡ get_or ms i x
    → flat_map f (map mention_of (take (i + 1) ms)) ≡ flat_map f (map mention_of (take i ms)) ++ f (mention_of x)
names_more f ms i x within is =
    ap (λ (ys : List Held). flat_map f (map mention_of ys)) (take_more ms i x within ∙ ap (λ (y : Held). take i ms ++ y ∷ []) (sym is))
    ∙ ap (flat_map f) (map_push mention_of (take i ms) x) ∙ flat_map-append f (map mention_of (take i ms)) (mention_of x ∷ [])
    ∙ ap (λ (ns : List Name). flat_map f (map mention_of (take i ms)) ++ ns) (append-nil (f (mention_of x)))
