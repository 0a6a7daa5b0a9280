-- A text has no more tokens than bytes, and three tokens at least for each pin that it maps and for each instance.
use Rattle.std.proofs.Common.{◌≡◌, ℕ, zero, suc, ◌+◌, ◌*◌, ◌-◌, ◌≤◌, Bool, false, List, [], ◌∷◌, ◌++◌, drop, length, refl, ap, ◌∙◌, arith, length-append}
use Rattle.vlsi_base.specs.declared.entity.Entity.{Entity}
use Rattle.lexer_base.specs.declared.piece.Piece.{Piece}
use Rattle.lexer_base.specs.declared.piece.Piece.TheVariants as piece
use Rattle.lexer_base.specs.Lexical.{length_of}
use Rattle.lexer_base.specs.Listing.{pieces_within, pieces_from, tokens_of as tokens_at, tokens_from, line_after}
use Rattle.vhdl_token.specs.declared.token.PlacedToken.{PlacedToken}
use Rattle.vhdl_lexer.specs.Listing.{cut, behind, pieces, tokens_in}
use Rattle.grammar_theory.specs.declared.limits.TheConstants.{DEPTH}
use Rattle.grammar_theory.specs.Marks.{Item}
use Rattle.grammar_theory.specs.Grammar.{Grammar, Then, list}
use Rattle.grammar_theory.specs.Answers.{tokens_of}
use Rattle.source_checks.specs.declared.statement.Target.{Target}
use Rattle.vbe_text.specs.Vbe.{target}
use Rattle.vst_text.specs.declared.file.PinName.{PinName}
use Rattle.vst_text.specs.declared.file.Association.{Association}
use Rattle.vst_text.specs.declared.file.InstanceStatement.{InstanceStatement}
use Rattle.vst_text.specs.declared.file.StructuralFile.{StructuralFile}
use Rattle.vst_text.specs.Vst.{pin, association, next_association, port_map, instance_statement, instance_statements, architecture, structure, IsStructure}

-- ---- tokens and bytes

few_pieces : (n : ℕ) (state : Bool) (text : List ℕ) → length (pieces_within cut behind n state text) ≤ n
unfolding pieces_within
few_pieces zero state text = omega arith
few_pieces (suc n) state [] = omega arith
few_pieces (suc n) state (b ∷ bs) =
    let first = cut state (b ∷ bs) in
    let rest = few_pieces n (behind first state) (drop (length_of first - 1) bs) in
    omega (arith, rest)

one_token : (line : ℕ) (p : Piece) → length (tokens_at line p) ≤ 1
one_token line piece.Blank = omega arith
one_token line piece.NewLine = omega arith
one_token line (piece.Comment n) = omega arith
one_token line (piece.Pragma key name n) = omega arith
one_token line (piece.Token t n) = omega arith
one_token line (piece.TooLong n) = omega arith
one_token line (piece.TooGreat n) = omega arith
one_token line piece.Bad = omega arith

few_tokens : (line : ℕ) (ps : List Piece) → length (tokens_from line ps) ≤ length ps
few_tokens line [] = omega arith
few_tokens line (p ∷ ps) =
    let one = one_token line p in
    let rest = few_tokens (line_after line p) ps in
    let both = length-append (tokens_at line p) (tokens_from (line_after line p) ps) in
    omega (arith, one, rest, both)

tokens_few : (bytes : List ℕ) → length (tokens_in bytes).items ≤ length bytes
unfolding tokens_in pieces_from
tokens_few bytes = let a = few_tokens 1 (pieces bytes) in let b = few_pieces (length bytes) false bytes in omega (arith, a, b)

length_tokens : (items : List Item) → length (tokens_of items) ≡ length items
length_tokens [] = refl
length_tokens (i ∷ items) = ap suc (length_tokens items)

-- ---- what stands behind one token, and before another sentence

both_parts : {A C : Type 0} {L : Grammar A} {M : A → Grammar C} (items : List Item) {v : C} (s : Then L M items v) → length items ≡ length s.front + length s.back
both_parts items s = ap length s.parts ∙ length-append s.front s.back

-- ---- pins and tokens

some_pin : (room : ℕ) (items : List Item) (p : PinName) → pin room items p → 1 ≤ length items
unfolding pin
some_pin room items p s = let one : length s.front ≡ 1 = ap length s.before.alone in let both = both_parts items s in omega (arith, one, both)

some_target : (room : ℕ) (items : List Item) (t : Target) → target room items t → 1 ≤ length items
unfolding target
some_target room items t s = let one : length s.front ≡ 1 = ap length s.before.alone in let both = both_parts items s in omega (arith, one, both)

three : (room : ℕ) (items : List Item) (a : Association) → association room items a → 3 ≤ length items
unfolding association
three room items a s =
    let first = some_pin room s.front s.value s.before in
    let arrow : length s.behind.front ≡ 1 = ap length s.behind.before.alone in
    let last = some_target room s.behind.behind.front s.behind.behind.value s.behind.behind.before in
    let x = both_parts items s in
    let y = both_parts s.back s.behind in
    let z = both_parts s.behind.back s.behind.behind in
    omega (arith, first, arrow, last, x, y, z)

three_next : (room : ℕ) (items : List Item) (a : Association) → next_association room items a → 3 ≤ length items
unfolding next_association
three_next room items a s = let more = three room s.back a s.behind in let x = both_parts items s in omega (arith, more, x)

three_each : (room : ℕ) (items : List Item) (all : List Association) → list (next_association room) items all → 3 * length all ≤ length items
three_each room items [] s = omega arith
three_each room items (a ∷ all) s =
    let one = three_next room s.0 a s.3 in
    let rest = three_each room s.1 all s.4 in
    let whole : length items ≡ length (s.0 ++ s.1) = ap length s.2 in
    let both = length-append s.0 s.1 in
    omega (arith, one, rest, whole, both)

of_map : (room : ℕ) (items : List Item) (m : List Association × ℕ) → port_map room items m → 3 * length m.0 ≤ length items
unfolding port_map
of_map room items m s =
    let first = s.behind.behind.behind in
    let others = first.behind in
    let is : m ≡ (first.value ∷ others.value, others.behind.value.line) = others.behind.behind.behind.1 in
    let many : length m.0 ≡ suc (length others.value) = ap (λ (x : List Association × ℕ). length x.0) is in
    let one = three (room - 1) first.front first.value first.before in
    let rest = three_each (room - 1) others.front others.value others.before in
    let a = both_parts items s in
    let b = both_parts s.back s.behind in
    let c = both_parts s.behind.back s.behind.behind in
    let d = both_parts s.behind.behind.back first in
    let e = both_parts first.back others in
    omega (arith, many, one, rest, a, b, c, d, e)

of_instance : (room : ℕ) (items : List Item) (i : InstanceStatement) → instance_statement room items i → 3 * length i.associations + 3 ≤ length items
unfolding instance_statement
of_instance room items i s =
    let map = s.behind.behind.behind in
    let is : i.associations ≡ map.value.0 = ap (λ (j : InstanceStatement). j.associations) map.behind.1 in
    let many : length i.associations ≡ length map.value.0 = ap length is in
    let pins = of_map room map.front map.value map.before in
    let label : length s.front ≡ 1 = ap length s.before.alone in
    let colon : length s.behind.front ≡ 1 = ap length s.behind.before.alone in
    let model : length s.behind.behind.front ≡ 1 = ap length s.behind.behind.before.alone in
    let a = both_parts items s in
    let b = both_parts s.back s.behind in
    let c = both_parts s.behind.back s.behind.behind in
    let d = both_parts s.behind.behind.back map in
    omega (arith, many, pins, label, colon, model, a, b, c, d)

-- how many pins statements map
abbrev pub mapped : List InstanceStatement → ℕ
mapped [] = 0
mapped (i ∷ is) = length i.associations + mapped is

of_instances : (room : ℕ) (items : List Item) (is : List InstanceStatement) → list (instance_statement room) items is → 3 * mapped is + 3 * length is ≤ length items
of_instances room items [] s = omega arith
of_instances room items (i ∷ is) s =
    let one = of_instance room s.0 i s.3 in
    let rest = of_instances room s.1 is s.4 in
    let whole : length items ≡ length (s.0 ++ s.1) = ap length s.2 in
    let both = length-append s.0 s.1 in
    omega (arith, one, rest, whole, both)

-- ---- whole texts

abbrev Weighs : List Item → List InstanceStatement → Type 0
Weighs items is = 3 * mapped is + 3 * length is ≤ length items

of_statements : (room : ℕ) (items : List Item) (is : List InstanceStatement) → instance_statements room items is → Weighs items is
unfolding instance_statements
of_statements room items is s =
    let all = s.behind in
    let is_all : is ≡ all.value = all.behind.behind.1 in
    let few = of_instances room all.front all.value all.before in
    let many : mapped is ≡ mapped all.value = ap mapped is_all in
    let long : length is ≡ length all.value = ap length is_all in
    let a = both_parts items s in
    let b = both_parts s.back all in
    omega (arith, few, many, long, a, b)

of_architecture : (room : ℕ) (e : Entity) (items : List Item) (f : StructuralFile) → architecture room e items f → Weighs items f.instances
unfolding architecture
of_architecture room e items f s =
    let all = s.behind.behind in
    let is_all : f.instances ≡ all.value = ap (λ (g : StructuralFile). g.instances) all.behind.behind.1 in
    let few = of_statements room all.front all.value all.before in
    let many : mapped f.instances ≡ mapped all.value = ap mapped is_all in
    let long : length f.instances ≡ length all.value = ap length is_all in
    let a = both_parts items s in
    let b = both_parts s.back s.behind in
    let c = both_parts s.behind.back all in
    omega (arith, few, many, long, a, b, c)

of_structure : (room : ℕ) (items : List Item) (f : StructuralFile) → structure room items f → Weighs items f.instances
unfolding structure
of_structure room items f s =
    let few = of_architecture room s.value s.back f s.behind in
    let a = both_parts items s in
    omega (arith, few, a)

-- so a text has three bytes for each pin that it maps, and three for each instance
pub bytes_for_pins : (bytes : List ℕ) (f : StructuralFile) → IsStructure (tokens_in bytes) f → 3 * mapped f.instances + 3 * length f.instances ≤ length bytes
bytes_for_pins bytes f h =
    let read = h.read.0 in
    let few = of_structure DEPTH read.front f read.sentence in
    let all = ap (λ (ts : List PlacedToken). length ts) read.parts in
    let both = length-append (tokens_of read.front) h.end.rest in
    let same = length_tokens read.front in
    let cut = tokens_few bytes in
    omega (arith, few, all, both, same, cut)
