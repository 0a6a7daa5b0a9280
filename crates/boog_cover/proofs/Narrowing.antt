-- Whole covers, of which gates are replaced and then left out.
use Rattle.std.proofs.Common.{◌≡◌, ◌⊎◌, inl, inr, ℕ, ◌+◌, ◌*◌, ◌<◌, ◌≤◌, ◌==◌, ◌||◌, Bool, true, false, List, [], ◌∷◌, length, take, get_or, Option, None, Some, refl, sym, subst, ◌∙◌, arith}
use Prim.Native.Nat.{zero, suc}
use Rattle.std.proofs.lemmas.Bool.{cases_lt, eqb-true, eq-eqb}
use Rattle.std.specs.Prelude.{IsTrue}
use Rattle.net_theory.specs.Sources.{IsNumber}
use Rattle.graph_theory.specs.Graph.{Node, fixed, inv, nand, ReadsBelow}
use Rattle.cell_match.specs.declared.gate.CellWord.{CellWord}
use Rattle.cell_match.specs.declared.gate.Gate.{Gate}
use Rattle.cell_match.specs.Places.{times}
use Rattle.cell_match.specs.declared.cut.Cut.{Cut}
use Rattle.boog_tight.specs.Cover.{leaves_of, gate_at, IsCover, uses}
use Rattle.boog_tight.specs.Kept.{leaf_count, ReadsThrough, pin, through, Keeps}
use Rattle.boog_tight.specs.Tight.{IsTight}
use Rattle.boog_tight.proofs.Counting.{gate_there}
use Rattle.cell_match.proofs.Numbers.{one_tells, times_more}
use Rattle.boog_cuts.specs.Reads.{reads}
use Rattle.boog_cuts.specs.Cuts.{IsCutTable}
use Rattle.cover_check.specs.Words.{KeepBits}
use Rattle.cover_check.specs.Covering.{KeepCover}
use Rattle.boog_cover.specs.Choices.{AreChosen}
use Rattle.boog_cover.specs.Pruned.{IsMarked, IsPruned}
use Rattle.boog_cover.specs.Covered.{HasCells, root, read, IsCovered}
use Rattle.boog_cover.specs.Lesser.{AreWhole, AllNeeded, ReadMarked}
use Rattle.boog_cover.proofs.Pruning.{used_by}
use Rattle.boog_cover.proofs.Having.{chosen_full}

reader_there : (gates : List (Option Gate)) (b x : ℕ) → 0 < times x (leaves_of (gate_at gates b)) → b < length gates
reader_there [] b x h = absurd (omega arith)
reader_there (g ∷ gates) zero x h = omega arith
reader_there (g ∷ gates) (suc b) x h = let e = reader_there gates b x h in omega arith

-- the chosen gates are whole
pub chosen_whole : {K : ℕ} (cells : List CellWord) (has : HasCells cells) (held : ℕ) (nodes : List Node) (lists : List (List (Cut K)))
    (gates : List (Option Gate)) → IsCutTable held nodes lists → AreChosen cells held nodes lists gates → AreWhole cells held nodes gates
chosen_whole cells has held nodes lists gates table chosen = record {
  many = chosen.many ∙ table.many;
  full = chosen_full cells has held nodes lists gates table chosen;
  gate = λ a g e. (chosen.stands a g e).is_gate;
  value = λ f values a g e. (chosen.stands a g e).value f values;
}

module _ (cells : List CellWord) (held : ℕ) (nodes : List Node) where
  whole_cover : (gates : List (Option Gate)) → AreWhole cells held nodes gates → IsCover cells held gates []
  whole_cover gates whole = record {
    gate = whole.gate;
    closed = λ x some.
        let by = used_by x gates (omega (arith, some)) in
        let low = whole.full.earlier by.0 x by.1 in
        let below = reader_there gates by.0 x by.1 in
        elim (cases_lt x held) [
          | inl given ↦ inl given
          | inr above ↦ inr (whole.full.there x (omega (arith, above)) (omega (arith, low, below)))
        ];
  }

  -- and so are they with others in their place
  pub whole_kept : (first second : List (Option Gate)) → length second ≡ length first → KeepBits cells first second
      → KeepCover cells held first second → AreWhole cells held nodes first → AreWhole cells held nodes second
  whole_kept first second long bits cover whole =
      let now = cover.cover [] (whole_cover first whole) in
      record {
        many = long ∙ whole.many;
        full = record {
          given = λ a low. cover.fewer a (whole.full.given a low);
          there = λ a above below.
              let old = whole.full.there a above (omega (arith, below, long)) in
              cover.more a old.0 old.1;
          earlier = λ a x some. low now a x (gate_at second a) refl some;
        };
        gate = now.gate;
        value = λ f values. bits.same f (whole.value f values);
      } where
        low : IsCover cells held second [] → (a x : ℕ) (o : Option Gate) → gate_at second a ≡ o → 0 < times x (leaves_of o) → x < a
        low now a x None e some = absurd (omega arith)
        low now a x (Some g) e some = (now.gate a g e).earlier x some

-- what is left covers the graph
module _ (cells : List CellWord) (held : ℕ) (nodes : List Node) (first second : List (Option Gate)) (roots : List ℕ)
    (whole : AreWhole cells held nodes first) (pruned : IsPruned held first second roots) where
  before : (a : ℕ) (g : Gate) → gate_at second a ≡ Some g → gate_at first a ≡ Some g
  before a g e = elim (pruned.of a) [
    | inl same ↦ sym same ∙ e
    | inr none ↦ let f : None ≡ Some g = sym none ∙ e in cc
  ]

  pub left_covers : IsCover cells held second roots
  left_covers = record {
    gate = λ a g e. whole.gate a g (before a g e);
    closed = pruned.closed;
  }

  pub left_inside : (x : ℕ) → 0 < uses second roots x → x < length second
  left_inside x some = elim (pruned.closed x some) [
    | inl given ↦ let long = pruned.long in let many = whole.many in omega (arith, given, long, many)
    | inr there ↦ gate_there second x there.0 there.1
  ]

  given_second : (a : ℕ) → a < held → gate_at second a ≡ None
  given_second a low = elim (pruned.of a) [
    | inl same ↦ same ∙ whole.full.given a low
    | inr none ↦ none
  ]

  marked : (marks : List Bool) → ReadMarked second marks → (a x : ℕ) → ReadsThrough second a x → IsMarked marks x
  marked marks reading a x (pin h) = reading a x h
  marked marks reading a x (through {b = b} s t) = marked marks reading b x t

  pub narrowed : (last : List (Option Gate)) (marks : List Bool) → AllNeeded held nodes roots marks → ReadMarked second marks
      → leaf_count second ≤ 2 * length nodes → Keeps cells held roots second last → IsTight cells last roots → IsCovered cells held nodes roots last
  narrowed last marks needed reading few keeps tight = record {
    long = keeps.long ∙ pruned.long ∙ whole.many;
    given = λ a low. keeps.fewer a (given_second a low);
    cover = keeps.cover;
    value = λ f values. keeps.same f (λ a g e. whole.value f values a g (before a g e));
    tight = tight;
    needed = keeps.needed pruned.needed;
    below = λ a some. elim (cases_lt 0 (times a roots)) [
      | inl by_root ↦ root by_root
      | inr none ↦
          let by = used_by a last (omega (arith, some, none)) in
          needed a (marked marks reading by.0 a (keeps.read by.0 a by.1))
    ];
    few = let pins = keeps.pins in omega (arith, pins, few);
  }

-- what stands in the list of a node's sons is read
pub inv_read : (a x : ℕ) → 0 < times x (a ∷ []) → IsTrue (reads (inv a) x)
inv_read a x h = elim (one_tells a x) [
  | inl is ↦ eq-eqb a x is.0
  | inr isnt ↦ let o = isnt.1 in absurd (omega (arith, h, o))
]

or_left : (a b : Bool) → a ≡ true → (a || b) ≡ true
or_left true b h = refl
or_left false b h = absurd (cc h)

or_right : (a b : Bool) → b ≡ true → (a || b) ≡ true
or_right true b h = refl
or_right false b h = h

pub nand_read : (a b x : ℕ) → 0 < times x (a ∷ b ∷ []) → IsTrue (reads (nand a b) x)
nand_read a b x h = elim (one_tells a x) [
  | inl is ↦ or_left (a == x) (b == x) (eq-eqb a x is.0)
  | inr isnt ↦ elim (one_tells b x) [
    | inl is ↦ or_right (a == x) (b == x) (eq-eqb b x is.0)
    | inr not_b ↦ let o = isnt.1 in let p = not_b.1 in absurd (omega (arith, h, o, p))
  ]
]

or_cases : (a b : Bool) → (a || b) ≡ true → (a ≡ true) ⊎ (b ≡ true)
or_cases true b h = inl refl
or_cases false b h = inr h

-- a node reads lower numbers alone
pub reads_low : (kind : Node) (n x : ℕ) → ReadsBelow n kind → IsTrue (reads kind x) → x < n
reads_low (fixed b) n x below h = absurd (cc h)
reads_low (inv a) n x below h = let e : a ≡ x = eqb-true a x h in omega (arith, e, below)
reads_low (nand a b) n x below h = elim (or_cases (a == x) (b == x) h) [
  | inl p ↦ let e : a ≡ x = eqb-true a x p in let low = below.0 in omega (arith, e, low)
  | inr q ↦ let e : b ≡ x = eqb-true b x q in let low = below.1 in omega (arith, e, low)
]

-- marks of what a marked node reads
pub spread : (held : ℕ) (nodes : List Node) (roots : List ℕ) (old new : List Bool) (j : ℕ) (kind : Node) → AllNeeded held nodes roots old
    → IsNumber nodes j kind → IsMarked old (held + j) → ((x : ℕ) → IsMarked new x → IsMarked old x ⊎ IsTrue (reads kind x))
    → AllNeeded held nodes roots new
spread held nodes roots old new j kind all at marked more x h = elim (more x h) [
  | inl was ↦ all x was
  | inr by ↦ read j kind (all (held + j) marked) at by
]

-- one leaf more, and one gate
pub leaf_marked : (leaves : List ℕ) (marks : List Bool) (i : ℕ) → i < length leaves → IsMarked marks (get_or leaves i 0)
    → ((x : ℕ) → 0 < times x (take i leaves) → IsMarked marks x) → (x : ℕ) → 0 < times x (take (i + 1) leaves) → IsMarked marks x
leaf_marked leaves marks i low here before x some =
    let e = times_more x leaves i low in
    elim (one_tells (get_or leaves i 0) x) [
      | inl is ↦ subst (λ (y : ℕ). IsMarked marks y) is.0 here
      | inr isnt ↦ let o = isnt.1 in before x (omega (arith, e, o, some))
    ]
