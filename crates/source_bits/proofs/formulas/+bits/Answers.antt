use Rattle.std.proofs.Common.{rules, map, ◌∙◌, ap, sym, ◌≡◌, List, ℕ}
use Rattle.vlsi_base.specs.declared.expression.ParsedExpr.TheViews.{the_lemmas}
use Rattle.vlsi_base.specs.Tree.{Tree, literal, inverse, binary, view as tree, operand_of, folded}
use Rattle.vlsi_base.proofs.Groups.{grouped_is}
use Rattle.bool_expr.specs.View.{view}
use Rattle.source_checks.specs.Symbols.{all_names}
use Rattle.source_checks.specs.Formula.{fixed, numbered, literal_bits}
use Rattle.source_bits.specs.Formulas.{bits_of}
use Rattle.source_bits.proofs.Leaves.{numbered_fixed, in_inverse, in_binary, bits_in_chain}
use Rattle.source_bits.proofs.formulas.+bits.Goals as goal

pub bits-returns-in_ok-made-in-Literal : goal.bits-returns-in_ok-made-in-Literal
bits-returns-in_ok-made-in-Literal t c =
    let known = c.args.numbers.now in
    let viewed : tree c.args.e.now ≡ literal c.in-Literal.radix c.in-Literal.digits c.in-Literal.field-2 = search (rules, the_lemmas) in
    c.in_ok-made-in-Literal.ensures ∙ numbered_fixed (all_names known) (literal_bits c.in-Literal.radix c.as_bytes.result.now)
    ∙ ap (λ (ds : List ℕ). map (numbered (all_names known)) (map fixed (literal_bits c.in-Literal.radix ds))) c.as_bytes.ensures
    ∙ ap (λ (x : Tree). bits_of known x) (sym viewed)

pub bits-returns-in_ok-made-in-Not : goal.bits-returns-in_ok-made-in-Not
bits-returns-in_ok-made-in-Not t c =
    let viewed : tree c.args.e.now ≡ inverse c.in-Not.field-0 (tree c.in-Not.inner.value) = search (rules, the_lemmas) in
    in_inverse c.args.numbers.now (tree c.args.e.now) (tree c.in-Not.inner.value) c.in-Not.field-0 (map view c.in_ok-inner-in-Not.inner.items) (map view c.in_ok-made-in-Not.made.items) viewed (search rules) c.in_ok-made-in-Not.ensures

pub bits-returns-in_ok-made-in-Binary : goal.bits-returns-in_ok-made-in-Binary
bits-returns-in_ok-made-in-Binary t c =
    let viewed : tree c.args.e.now ≡ binary c.in-Binary.operator c.in-Binary.field-1 (tree c.in-Binary.left.value) (tree c.in-Binary.right.value) = search (rules, the_lemmas) in
    in_binary c.args.numbers.now (tree c.args.e.now) (tree c.in-Binary.left.value) (tree c.in-Binary.right.value) c.in-Binary.operator c.in-Binary.field-1 (map view c.in_ok-left-in-Binary.left.items) (map view c.in_ok-right-in-Binary.right.items) (map view c.in_ok-made-in-Binary.made.items) viewed (search rules) (search rules) c.in_ok-made-in-Binary.ensures

pub bits-returns-in_ok-all-in-Chain : goal.bits-returns-in_ok-all-in-Chain
bits-returns-in_ok-all-in-Chain t c =
    let viewed : tree c.args.e.now ≡ folded c.in-Chain.operator (tree c.in-Chain.first.value) (map operand_of c.in-Chain.others.items) = search (rules, the_lemmas, grouped_is) in
    bits_in_chain c.args.numbers.now (tree c.args.e.now) (tree c.in-Chain.first.value) c.in-Chain.operator c.in-Chain.others.items (map view c.in_ok-first-in-Chain.first.items) (map view c.in_ok-all-in-Chain.all.items) viewed (search rules) (search rules)
