-- Expressions, values and targets as they are written of a machine have no fault, and each is one bit.
use Rattle.std.proofs.Common.{◌≡◌, ℕ, Bool, true, false, not, ◌&&◌, List, [], ◌∷◌, ◌++◌, map, Option, None, Some, refl, sym, ap, subst, ◌∙◌, append_assoc}
use Rattle.std.specs.Prelude.{is_none}
use Rattle.vlsi_base.specs.declared.name.Name.{Name}
use Rattle.vlsi_base.specs.declared.range.Range.{Range}
use Rattle.vlsi_base.specs.Tree.{Tree, bit, name, index, inverse, binary}
use Rattle.bool_expr.specs.declared.expr.Gate.{Gate}
use Rattle.bool_expr.specs.declared.expr.Gate.TheVariants as gate
use Rattle.vlsi_base.specs.declared.expression.Operator.TheVariants as operator
use Rattle.source_checks.specs.declared.symbol_table.Symbol.{Symbol}
use Rattle.source_checks.specs.Symbols.{find, has_bit, scalar, bit_name, names_in}
use Rattle.source_checks.specs.Places.{Use, reads}
use Rattle.source_checks.specs.Formula.{Formula, fixed, named, opposite, joined, chosen, leaf, names_of_found, operator_bits, formulas, first_bit, choose_bits}
use Rattle.source_checks.specs.Widths.{if_not, declared_width, found_width, needs_equal, joined_width, differ, width, index_fits, width_faults, condition_faults}
use Rattle.source_checks.specs.Unsupported.{literal_faults}
use Rattle.source_checks.specs.Clock.{clock_lines}
use Rattle.vbe_text.specs.Source.{ChoiceTree}
use Rattle.vbe_print.specs.Placed.{operator_of}
use Rattle.vbe_laws.proofs.RenamedTrees.{in_alternatives_of, in_choice_of, all_wide_of, bits_from, bits_of}

-- ---- what is known of a name

-- the bit lies in the declaration
abbrev pub LiesIn : Option Range → Option ℕ → Type 0
LiesIn None None = Unit {0}
LiesIn None (Some k) = ⊥
LiesIn (Some r) None = ⊥
LiesIn (Some r) (Some k) = has_bit r k ≡ true

-- the name is declared with its bit
pub record IsDeclared (known : List Symbol) (n : Name) : Type 0 where
  pub symbol : Symbol
  pub found : find known n.text ≡ Some symbol
  pub text : symbol.text ≡ n.text
  pub lies : LiesIn symbol.range n.bit

-- and it can be read: it is neither a supply nor the clock
pub record IsReadable (known : List Symbol) (ck : Option (List ℕ)) (n : Name) : Type 0 where
  pub declared : IsDeclared known n
  pub leaf_is : leaf n ≡ named n
  pub other : (line : ℕ) → clock_lines ck (name n.text line) ≡ []

-- all of these names are declared
abbrev pub AreUsed : List Symbol → List Use → Type 0
AreUsed known [] = Unit {0}
AreUsed known (u ∷ us) = (is_none (find known u.text) ≡ false) × AreUsed known us

pub used_both : (known : List Symbol) (us vs : List Use) → AreUsed known us → AreUsed known vs → AreUsed known (us ++ vs)
used_both known [] vs a b = b
used_both known (u ∷ us) vs a b = (a.0, used_both known us vs a.1 b)

pub is_used : (known : List Symbol) (n : Name) → IsDeclared known n → is_none (find known n.text) ≡ false
is_used known n d = ap is_none d.found

-- ---- expressions

-- an expression of one bit without a fault, which is this formula
pub record IsPlain (known : List Symbol) (ck : Option (List ℕ)) (t : Tree) (f : Formula) : Type 0 where
  pub width : width known t ≡ Some 1
  pub faults : width_faults known t ≡ []
  pub forms : literal_faults t ≡ []
  pub clocks : clock_lines ck t ≡ []
  pub uses : AreUsed known (reads t)
  pub bits : formulas known t ≡ f ∷ []

pub plain_bit : (known : List Symbol) (ck : Option (List ℕ)) (b : Bool) (line : ℕ) → IsPlain known ck (bit b line) (fixed b)
plain_bit known ck b line = record { width = refl; faults = refl; forms = refl; clocks = refl; uses = tt; bits = refl }

-- the names of what is declared so, by the bit that is asked for
whole_name : (known : List Symbol) (n : Name) (d : IsDeclared known n) → n.bit ≡ None → d.symbol.range ≡ None
whole_name known n d e = by d.symbol.range n.bit d.lies e where
  by : (o : Option Range) (b : Option ℕ) → LiesIn o b → b ≡ None → o ≡ None
  by None b h e = refl
  by (Some r) None h e = absurd h
  by (Some r) (Some k) h e = absurd cc

pub names_found : (known : List Symbol) (n : Name) (d : IsDeclared known n) → n.bit ≡ None → names_of_found (find known n.text) ≡ scalar n.text ∷ []
names_found known n d e =
    ap names_of_found d.found
    ∙ ap (λ (o : Option Range). names_in d.symbol.text o) (whole_name known n d e)
    ∙ ap (λ (t : List ℕ). scalar t ∷ []) d.text

pub width_found : (known : List Symbol) (n : Name) (d : IsDeclared known n) → n.bit ≡ None → found_width (find known n.text) ≡ 1
width_found known n d e = ap found_width d.found ∙ ap declared_width (whole_name known n d e)

pub bit_fits : (known : List Symbol) (n : Name) (d : IsDeclared known n) (k : ℕ) → n.bit ≡ Some k → index_fits (find known n.text) k ≡ true
bit_fits known n d k e = ap (λ (o : Option Symbol). index_fits o k) d.found ∙ by d.symbol d.symbol.range refl (subst (LiesIn d.symbol.range) e d.lies) where
  by : (s : Symbol) (o : Option Range) → s.range ≡ o → LiesIn o (Some k) → index_fits (Some s) k ≡ true
  by s None is h = absurd h
  by s (Some r) is h = rw is h

leaf_whole : (n : Name) → leaf n ≡ named n → n.bit ≡ None → leaf (scalar n.text) ≡ named n
leaf_whole n l e = ap (λ (b : Option ℕ). leaf (record { text = n.text; bit = b })) (sym e) ∙ l

leaf_bit : (n : Name) (k : ℕ) → leaf n ≡ named n → n.bit ≡ Some k → leaf (bit_name n.text k) ≡ named n
leaf_bit n k l e = ap (λ (b : Option ℕ). leaf (record { text = n.text; bit = b })) (sym e) ∙ l

pub plain_whole : (known : List Symbol) (ck : Option (List ℕ)) (n : Name) (line : ℕ) → IsReadable known ck n → n.bit ≡ None → IsPlain known ck (name n.text line) (named n)
plain_whole known ck n line r e = record {
  width = ap Some (width_found known n r.declared e);
  faults = refl;
  forms = refl;
  clocks = r.other line;
  uses = (is_used known n r.declared, tt);
  bits = ap (map leaf) (names_found known n r.declared e) ∙ ap (λ (f : Formula). f ∷ []) (leaf_whole n r.leaf_is e);
}

pub plain_index : (known : List Symbol) (ck : Option (List ℕ)) (n : Name) (line k : ℕ) → IsReadable known ck n → n.bit ≡ Some k → IsPlain known ck (index n.text line k) (named n)
plain_index known ck n line k r e = record {
  width = refl;
  faults = ap (λ b. if_not b line) (bit_fits known n r.declared k e);
  forms = refl;
  clocks = refl;
  uses = (is_used known n r.declared, tt);
  bits = ap (λ (f : Formula). f ∷ []) (leaf_bit n k r.leaf_is e);
}

pub plain_not : (known : List Symbol) (ck : Option (List ℕ)) (t : Tree) (f : Formula) (line : ℕ) → IsPlain known ck t f → IsPlain known ck (inverse line t) (opposite f)
plain_not known ck t f line p = record { width = p.width; faults = p.faults; forms = p.forms; clocks = p.clocks; uses = p.uses; bits = ap (map opposite) p.bits }

-- nothing in both parts
pub nothing : {A : Type 0} (xs ys : List A) → xs ≡ [] → ys ≡ [] → xs ++ ys ≡ []
nothing {A} xs ys e f = ap (λ (z : List A). z ++ ys) e ∙ f

pub both_bits : (f : List Formula → List Formula → List Formula) (xs ys : List Formula) (x y : Formula) → xs ≡ x ∷ [] → ys ≡ y ∷ [] → f xs ys ≡ f (x ∷ []) (y ∷ [])
both_bits f xs ys x y e h = ap (λ (z : List Formula). f z ys) e ∙ ap (λ (z : List Formula). f (x ∷ []) z) h

-- two expressions that a gate joins
pub plain_pair : (known : List Symbol) (ck : Option (List ℕ)) (g : Gate) (a b : Tree) (f h : Formula) (line : ℕ) → IsPlain known ck a f → IsPlain known ck b h
    → IsPlain known ck (binary (operator_of g) line a b) (joined g f h)
plain_pair known ck g a b f h line p q = record {
  width = one_width g;
  faults = nothing (width_faults known a) (if_not (not (needs_equal (operator_of g) && differ (width known a) (width known b))) line ++ width_faults known b) p.faults
      (nothing (if_not (not (needs_equal (operator_of g) && differ (width known a) (width known b))) line) (width_faults known b) (no_fault g) q.faults);
  forms = nothing (literal_faults a) (literal_faults b) p.forms q.forms;
  clocks = nothing (clock_lines ck a) (clock_lines ck b) p.clocks q.clocks;
  uses = used_both known (reads a) (reads b) p.uses q.uses;
  bits = both_bits (operator_bits (operator_of g)) (formulas known a) (formulas known b) f h p.bits q.bits ∙ one_bits g;
} where
  widths : {A : Type 0} (of : Option ℕ → Option ℕ → A) → of (width known a) (width known b) ≡ of (Some 1) (Some 1)
  widths of = ap (λ (o : Option ℕ). of o (width known b)) p.width ∙ ap (λ (o : Option ℕ). of (Some 1) o) q.width

  one_width : (g : Gate) → width known (binary (operator_of g) line a b) ≡ Some 1
  one_width gate.And = widths (joined_width operator.And)
  one_width gate.Or = widths (joined_width operator.Or)
  one_width gate.Nand = widths (joined_width operator.Nand)
  one_width gate.Nor = widths (joined_width operator.Nor)
  one_width gate.Xor = widths (joined_width operator.Xor)
  one_width gate.Xnor = widths (joined_width operator.Xnor)

  no_fault : (g : Gate) → if_not (not (needs_equal (operator_of g) && differ (width known a) (width known b))) line ≡ []
  no_fault gate.And = widths (λ x y. if_not (not (differ x y)) line)
  no_fault gate.Or = widths (λ x y. if_not (not (differ x y)) line)
  no_fault gate.Nand = widths (λ x y. if_not (not (differ x y)) line)
  no_fault gate.Nor = widths (λ x y. if_not (not (differ x y)) line)
  no_fault gate.Xor = widths (λ x y. if_not (not (differ x y)) line)
  no_fault gate.Xnor = widths (λ x y. if_not (not (differ x y)) line)

  one_bits : (g : Gate) → operator_bits (operator_of g) (f ∷ []) (h ∷ []) ≡ joined g f h ∷ []
  one_bits gate.And = refl
  one_bits gate.Or = refl
  one_bits gate.Nand = refl
  one_bits gate.Nor = refl
  one_bits gate.Xor = refl
  one_bits gate.Xnor = refl

-- ---- values

-- a value of one bit without a fault, which is this formula
pub record IsValued (known : List Symbol) (ck : Option (List ℕ)) (c : ChoiceTree) (f : Formula) : Type 0 where
  pub wide : all_wide_of known (Some 1) c.alternatives c.otherwise ≡ true
  pub faults : in_choice_of (width_faults known) (condition_faults known) c ≡ []
  pub forms : in_choice_of literal_faults (λ line e. literal_faults e) c ≡ []
  pub clocks : in_choice_of (clock_lines ck) (λ line e. clock_lines ck e) c ≡ []
  pub uses : AreUsed known (in_choice_of reads (λ line e. reads e) c)
  pub bits : bits_of known c ≡ f ∷ []

same_width : (o : Option ℕ) → o ≡ Some 1 → not (differ o (Some 1)) ≡ true
same_width o e = ap (λ (x : Option ℕ). not (differ x (Some 1))) e

pub valued_alone : (known : List Symbol) (ck : Option (List ℕ)) (t : Tree) (f : Formula) → IsPlain known ck t f → IsValued known ck (record { alternatives = []; otherwise = t }) f
valued_alone known ck t f p = record { wide = same_width (width known t) p.width; faults = p.faults; forms = p.forms; clocks = p.clocks; uses = p.uses; bits = p.bits }

-- nothing in the value, nothing in the condition, and nothing in the others
nothing_more : {A : Type 0} (xs ys zs us : List A) → xs ≡ [] → ys ≡ [] → zs ++ us ≡ [] → (xs ++ (ys ++ zs)) ++ us ≡ []
nothing_more {A} xs ys zs us e f g = ap (λ (w : List A). (w ++ (ys ++ zs)) ++ us) e ∙ ap (λ (w : List A). (w ++ zs) ++ us) f ∙ g

pub valued_more : (known : List Symbol) (ck : Option (List ℕ)) (a c : Tree) (line : ℕ) (rest : ChoiceTree) (f g h : Formula) → IsPlain known ck a f → IsPlain known ck c g → IsValued known ck rest h
    → IsValued known ck (record { alternatives = record { value = a; condition = c; line = line } ∷ rest.alternatives; otherwise = rest.otherwise }) (chosen g f h)
valued_more known ck a c line rest f g h p q r = record {
  wide = ap (λ b. b && all_wide_of known (Some 1) rest.alternatives rest.otherwise) (same_width (width known a) p.width) ∙ r.wide;
  faults =
      nothing_more (width_faults known a) (condition_faults known line c) (in_alternatives_of (width_faults known) (condition_faults known) rest.alternatives) (width_faults known rest.otherwise) p.faults
      (nothing (if_not (not (differ (width known c) (Some 1))) line) (width_faults known c) (ap (λ b. if_not b line) (same_width (width known c) q.width)) q.faults) r.faults;
  forms =
      nothing_more (literal_faults a) (literal_faults c) (in_alternatives_of literal_faults (λ line e. literal_faults e) rest.alternatives) (literal_faults rest.otherwise) p.forms q.forms r.forms;
  clocks =
      nothing_more (clock_lines ck a) (clock_lines ck c) (in_alternatives_of (clock_lines ck) (λ line e. clock_lines ck e) rest.alternatives) (clock_lines ck rest.otherwise) p.clocks q.clocks r.clocks;
  uses =
      let more = in_alternatives_of reads (λ line e. reads e) rest.alternatives in
      subst (AreUsed known) (sym (append_assoc (reads a) (reads c ++ more) (reads rest.otherwise) ∙ ap (λ (us : List Use). reads a ++ us) (append_assoc (reads c) more (reads rest.otherwise))))
      (used_both known (reads a) (reads c ++ (more ++ reads rest.otherwise)) p.uses (used_both known (reads c) (more ++ reads rest.otherwise) q.uses r.uses));
  bits =
      ap (λ (x : List Formula). choose_bits (first_bit x) (formulas known a) (bits_from known rest.alternatives (formulas known rest.otherwise))) q.bits
      ∙ both_bits (choose_bits g) (formulas known a) (bits_from known rest.alternatives (formulas known rest.otherwise)) f h p.bits r.bits;
}
