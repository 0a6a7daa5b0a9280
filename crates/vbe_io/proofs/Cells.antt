-- The pins of a cell have different names, and what is apart cell is refused.
use Rattle.std.proofs.Common.{◌≡◌, IfErr, Result, Ok, Err, ℕ, Bool, true, false, cond, List, [], ◌∷◌, map, Option, None, Some, refl, sym, ap, ◌∙◌, subst}
use Rattle.std.proofs.lemmas.List.{map-append}
use Rattle.vlsi_base.specs.declared.name.Name.{Name}
use Rattle.vlsi_base.specs.declared.name.Port.{Port}
use Rattle.vlsi_base.specs.declared.name.Dir.{Dir}
use Rattle.vlsi_base.specs.declared.fault.FaultKind.TheVariants as kind
use Rattle.vlsi_base.specs.declared.fault.LimitKind.TheVariants as limit
use Rattle.vlsi_base.specs.declared.fault.ReadError.{ReadError}
use Rattle.vlsi_base.specs.declared.fault.ReadError.TheVariants as errors
use Rattle.vlsi_base.specs.Name.{is_supply}
use Rattle.lexer_base.specs.declared.piece.Piece.{Piece}
use Rattle.lexer_base.specs.declared.piece.Piece.TheVariants as piece
use Rattle.lexer_base.specs.Listing.{refusal_of, or_else, refusal_from, line_after, IsRefusal}
use Rattle.vhdl_lexer.specs.Listing.{refusal_in, pieces}
use Rattle.vhdl_token.specs.declared.token.Tokens.{Tokens}
use Rattle.grammar_theory.specs.declared.refusal.Breach.{Breach}
use Rattle.grammar_theory.specs.declared.refusal.Breach.TheVariants as broken
use Rattle.grammar_theory.specs.declared.refusal.Reason.{Reason}
use Rattle.grammar_theory.specs.declared.refusal.Reason.TheVariants as reason
use Rattle.vhdl_front.specs.Front.{breach_error, reason_error, line_left}
use Rattle.machine_core.specs.Machine.{Machine, names_of}
use Rattle.machine_core.specs.Order.{AllDifferent}
use Rattle.source_checks.specs.declared.statement.DesignFile.{DesignFile}
use Rattle.source_checks.specs.declared.symbol_table.Symbol.{Symbol}
use Rattle.source_checks.specs.Symbols.{symbols, symbol_names, all_names, scalar}
use Rattle.source_checks.specs.Elaboration.{port_of}
use Rattle.source_checks.specs.Checks.{fault, if_symbol, first_repeated, IsRefused}
use Rattle.vbe_text.specs.Vbe.{RefusedAs, IsRefusedSource}
use Rattle.vlsi_model.proofs.Members.{Sub, none, Sub-append, Sub-nothing, Sub-itself, different_Sub}
use Rattle.vlsi_model.proofs.Bits.{different_texts, different_bits}
use Rattle.vlsi_model.proofs.Stages.{no_fault}
use Rattle.vbe_io.specs.Text.{IsWritten, IsVbeRefusal, faulty}
use Rattle.vbe_io.specs.Cell.{pin_dir, pins_towards, symbol_pins, pin_bits, is_left_out, IsBehaviour, IsTooWide, Unfit, CellRefused, IsCellRefusal, IsUnfit, IsPinsRefusal, at_fault, too_wide, other, wide}

-- ---- names of pins

names_towards : (d : Dir) (names : List Name) → names_of (map (port_of d) names) ≡ names
names_towards d [] = refl
names_towards d (n ∷ names) = ap (λ (ns : List Name). n ∷ ns) (names_towards d names)

sub_towards : (o : Option Dir) (names : List Name) → Sub (names_of (pins_towards o names)) names
sub_towards None names = Sub-nothing names
sub_towards (Some d) names = subst (λ (ns : List Name). Sub ns names) (sym (names_towards d names)) (Sub-itself names)

sub_pins : (s : Symbol) → Sub (names_of (symbol_pins s)) (symbol_names s)
sub_pins s = by (is_supply s.text) where
  by : (b : Bool) → Sub (names_of (cond b [] (pins_towards (pin_dir s.role) (symbol_names s)))) (symbol_names s)
  by true = Sub-nothing (symbol_names s)
  by false = sub_towards (pin_dir s.role) (symbol_names s)

-- the pins stand among all bits, in file order
pins_sub : (known : List Symbol) → Sub (names_of (pin_bits known)) (all_names known)
pins_sub [] = none
pins_sub (s ∷ known) =
    subst (λ (ns : List Name). Sub ns (all_names (s ∷ known))) (sym (map-append (λ (p : Port). p.name) (symbol_pins s) (pin_bits known)))
    (Sub-append (names_of (symbol_pins s)) (symbol_names s) (names_of (pin_bits known)) (all_names known) (sub_pins s) (pins_sub known))

no_twice : (o : Option Symbol) (later : Option ReadError) (e : ReadError) → if_symbol o later ≡ Some e → is_left_out e ≡ true → o ≡ None
no_twice None later e is left = refl
no_twice (Some s) later e is left =
    let twice : fault kind.Twice s.line (scalar s.text ∷ []) ≡ e = cc in let never : false ≡ true = ap is_left_out twice ∙ left in absurd cc

different_from : (design : DesignFile) → first_repeated [] (symbols design) ≡ None → AllDifferent (names_of (pin_bits (symbols design)))
different_from design once =
    different_Sub (names_of (pin_bits (symbols design))) (all_names (symbols design)) (pins_sub (symbols design)) (different_bits (symbols design) (different_texts (symbols design) once))

pub different_pins : (design : DesignFile) (m : Option Machine) → IsBehaviour design m → AllDifferent (names_of (pin_bits (symbols design)))
different_pins design (Some m) b = different_from design (no_fault design b.0.no_fault).repeated
different_pins design None b = different_from design (no_twice (first_repeated [] (symbols design)) _ b.0 b.1 b.2)

-- ---- refusals

pub in_err : {X : Type 0} {P Q : ReadError → Type 0} → ((e : ReadError) → P e → Q e) → (r : Result X ReadError) → IfErr r P → IfErr r Q
in_err step (Ok x) is = tt
in_err step (Err e) is = step e is

pub unfit_fault : (design : DesignFile) (e : ReadError) → IsRefused design e → is_left_out e ≡ false → IsUnfit design e
unfit_fault design errors.Memory is apart = tt
unfit_fault design (errors.Input f) is apart = at_fault is apart
unfit_fault design (errors.Limit l) is apart = at_fault is apart

pub unfit_pins : (design : DesignFile) (m : Option Machine) (pins : List Port) (e : ReadError) → IsBehaviour design m → pins ≡ pin_bits (symbols design) → IsPinsRefusal pins m e → IsUnfit design e
unfit_pins design m pins errors.Memory b same is = tt
unfit_pins design m pins (errors.Input f) b same is = absurd is
unfit_pins design m pins (errors.Limit l) b same is =
    too_wide (subst (λ (o : Option Machine). IsBehaviour design o) is.0 b) (subst (λ (ps : List Port). IsTooWide ps (errors.Limit l)) same is.1)

of_unfit : (bytes : List ℕ) (design : DesignFile) (e : ReadError) → IsWritten bytes design → Unfit design e → CellRefused bytes e
of_unfit bytes design e written (at_fault is apart) = other (faulty design written is) apart
of_unfit bytes design e written (too_wide left many) = wide design written left many

pub cell_refused : (bytes : List ℕ) (design : DesignFile) (e : ReadError) → IsWritten bytes design → IsUnfit design e → IsCellRefusal bytes e
cell_refused bytes design errors.Memory written is = tt
cell_refused bytes design (errors.Input f) written is = of_unfit bytes design (errors.Input f) written is
cell_refused bytes design (errors.Limit l) written is = of_unfit bytes design (errors.Limit l) written is

pub unread : (bytes : List ℕ) (e : ReadError) → IsVbeRefusal bytes e → is_left_out e ≡ false → IsCellRefusal bytes e
unread bytes errors.Memory is apart = tt
unread bytes (errors.Input f) is apart = other is apart
unread bytes (errors.Limit l) is apart = other is apart

-- ---- no form is left out by the lexer and the grammar

piece_other : (line : ℕ) (p : Piece) (e : ReadError) → refusal_of line p ≡ Some e → is_left_out e ≡ false
piece_other line (piece.TooLong n) e is = let same : errors.Limit (record { which = limit.Ident; reached = n }) ≡ e = cc in ap is_left_out (sym same)
piece_other line (piece.TooGreat n) e is = let same : errors.Limit (record { which = limit.Number; reached = n }) ≡ e = cc in ap is_left_out (sym same)
piece_other line piece.Bad e is = let same : errors.Input (record { line = line; kind = kind.BadByte; names = [] }) ≡ e = cc in ap is_left_out (sym same)
piece_other line piece.Blank e is = absurd cc
piece_other line piece.NewLine e is = absurd cc
piece_other line (piece.Comment n) e is = absurd cc
piece_other line (piece.Pragma key name n) e is = absurd cc
piece_other line (piece.Token t n) e is = absurd cc

pieces_other : (line : ℕ) (ps : List Piece) (e : ReadError) → refusal_from line ps ≡ Some e → is_left_out e ≡ false
pieces_other line [] e is = absurd cc
pieces_other line (p ∷ ps) e is = by (refusal_of line p) refl is (pieces_other (line_after line p) ps e) where
  by : (o : Option ReadError) → refusal_of line p ≡ o → or_else o (refusal_from (line_after line p) ps) ≡ Some e
      → (refusal_from (line_after line p) ps ≡ Some e → is_left_out e ≡ false) → is_left_out e ≡ false
  by None is_none is rest = rest is
  by (Some d) some is rest = piece_other line p e (some ∙ is)

in_text : (bytes : List ℕ) (e : ReadError) → refusal_in bytes ≡ Some e → is_left_out e ≡ false
unfolding refusal_in
in_text bytes e is = pieces_other 1 (pieces bytes) e is

pub uncut_other : (bytes : List ℕ) (e : ReadError) → IsRefusal e (refusal_in bytes) → is_left_out e ≡ false
uncut_other bytes errors.Memory is = refl
uncut_other bytes (errors.Input f) is = in_text bytes (errors.Input f) is
uncut_other bytes (errors.Limit l) is = refl

breach_other : (line : ℕ) (b : Breach) → is_left_out (breach_error line b) ≡ false
breach_other line (broken.Twice begins name) = refl
breach_other line broken.Depth = refl
breach_other line (broken.Bits n) = refl
breach_other line broken.Chain = refl
breach_other line broken.Spelling = refl

reason_other : (line : ℕ) (r : Reason) → is_left_out (reason_error line r) ≡ false
reason_other line reason.Syntax = refl
reason_other line (reason.Breach b) = breach_other line b

text_other : (tokens : Tokens) (e : ReadError) → RefusedAs tokens e → is_left_out e ≡ false
text_other tokens e is = ap is_left_out is.is ∙ reason_other (line_left tokens.last_line tokens.items is.refusal.left) is.refusal.reason

pub unwritten_other : (tokens : Tokens) (e : ReadError) → IsRefusedSource tokens e → is_left_out e ≡ false
unwritten_other tokens errors.Memory is = refl
unwritten_other tokens (errors.Input f) is = text_other tokens (errors.Input f) is
unwritten_other tokens (errors.Limit l) is = refl
