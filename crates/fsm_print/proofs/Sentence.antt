-- What is written of a state machine is a sentence.
use Rattle.std.proofs.Common.{◌≡◌, ℕ, false, List, [], ◌∷◌, ◌++◌, map, length, codes, None, Some, Ok, Err, slice_index, refl, sym, ap, subst, ◌∙◌, arith, append_assoc}
use Rattle.vlsi_base.specs.declared.entity.Entity.{Entity}
use Rattle.vlsi_base.specs.declared.pragma.Pragma.{Pragma}
use Rattle.fsm_machine.specs.Fsm.{Fsm}
use Rattle.vhdl_token.specs.declared.token.PlacedToken.{PlacedToken}
use Rattle.vhdl_token.specs.declared.token.Tokens.{Tokens}
use Rattle.lexer_base.specs.declared.piece.Piece.{Piece}
use Rattle.lexer_base.specs.declared.piece.Piece.TheVariants as piece
use Rattle.lexer_base.specs.Listing.{tokens_from, pragmas_from, refusal_from}
use Rattle.vhdl_lexer.specs.Listing.{pieces, tokens_in, refusal_in}
use Rattle.vhdl_token.specs.Keyword.{keyword_of}
use Rattle.grammar_theory.specs.declared.limits.TheConstants.{DEPTH}
use Rattle.grammar_theory.specs.Marks.{uncounted}
use Rattle.grammar_theory.specs.Outcome.{At, Outcome, start}
use Rattle.grammar_theory.specs.Answers.{Accepts, Answers, AnswersAll}
use Rattle.vhdl_front.specs.Entity.{entity}
use Rattle.spell_theory.specs.Layout.{Written, text_of, placed, line_of}
use Rattle.spell_theory.proofs.Combinators.{accepts_all}
use Rattle.spell_theory.proofs.Layouts.{IsCut, cut_again, placed_append}
use Rattle.vhdl_print.specs.Outline.{entity_layout, placed_entity, with_ports}
use Rattle.vhdl_print.specs.EntityAgain.{IsName}
use Rattle.vhdl_print.proofs.VhdlLexer.{vhdl}
use Rattle.vhdl_print.proofs.InFront.{entity_is_read_in_front}
use Rattle.vst_print.specs.Groups.{grouped, declared, outline}
use Rattle.vst_print.proofs.Runs.{some_groups}
use Rattle.vst_print.proofs.Entries.{EntriesNew, port_entry}
use Rattle.vst_print.proofs.Netlists.{outline_name, outline_ports}
use Rattle.source_checks.specs.declared.symbol_table.Symbol.{Symbol}
use Rattle.fsm_text.specs.Fsm.{fsm, machine}
use Rattle.fsm_text.specs.Chains.{named_by, counted_symbols, overfull}
use Rattle.fsm_text.specs.Texts.{counted_in, PassesBefore}
use Rattle.fsm_print.specs.declared.words.Words.{Words}
use Rattle.fsm_print.specs.Written.{step_layout, clock_layout, last_layout, declarations_layout, layout, pragma_line, text}
use Rattle.fsm_print.proofs.Known.{some_states}
use Rattle.fsm_print.specs.Placed.{placed_pragmas, first_line, machine_of}
use Rattle.fsm_print.specs.Said.{WrittenIsASentence}
use Rattle.fsm_print.proofs.Pragmas.{dashed, pragma_pieces}
use Rattle.fsm_print.proofs.Fits.{fit_layout}
use Rattle.fsm_print.proofs.Declared.{Ready, sound_ports, are_said, clock_said, name_said, body_said, current_added, next_added, added_no_port, two_signals, name_entry, further_texts, entries_new, entity_can}
use Rattle.fsm_print.proofs.Own.{counted_here, are_own, current_uncounted}
use Rattle.fsm_print.proofs.Total.{never_overfull}
use Rattle.fsm_print.proofs.Whole.{whole_layout, machine_at, spell_machine}

-- ---- the keys

current_key : IsName (codes "current_state")
unfolding keyword_of
current_key = (record { begins = refl; letters = refl; short = omega arith }, refl)

next_key : IsName (codes "next_state")
unfolding keyword_of
next_key = (record { begins = refl; letters = refl; short = omega arith }, refl)

clock_key : IsName (codes "clock")
unfolding keyword_of
clock_key = (record { begins = refl; letters = refl; short = omega arith }, refl)

-- ---- tokens

abbrev three : Words → List ℕ → List Piece → List Piece
three w clock ps =
    piece.Pragma (codes "current_state") w.current (length (dashed (codes "current_state") w.current)) ∷ piece.NewLine
    ∷ piece.Pragma (codes "next_state") w.next (length (dashed (codes "next_state") w.next)) ∷ piece.NewLine
    ∷ piece.Pragma (codes "clock") clock (length (dashed (codes "clock") clock)) ∷ piece.NewLine ∷ ps

text_pieces : (w : Words) (f : Fsm) → Ready w f → pieces (text w f) ≡ three w f.clock.text (pieces (text_of (layout w f)))
text_pieces w f r =
    let R = text_of (layout w f) in
    let p1 = pragma_line (codes "current_state") w.current in
    let p2 = pragma_line (codes "next_state") w.next in
    let p3 = pragma_line (codes "clock") f.clock.text in
    let front : (ps : List Piece) → List Piece =
    λ ps. piece.Pragma (codes "current_state") w.current (length (dashed (codes "current_state") w.current)) ∷ piece.NewLine ∷ ps in
    let second : (ps : List Piece) → List Piece =
    λ ps. piece.Pragma (codes "next_state") w.next (length (dashed (codes "next_state") w.next)) ∷ piece.NewLine ∷ ps in
    ap pieces (append_assoc p1 (p2 ++ p3) R ∙ ap (λ (t : List ℕ). p1 ++ t) (append_assoc p2 p3 R))
    ∙ pragma_pieces (codes "current_state") w.current (p2 ++ (p3 ++ R)) current_key (current_added w f r).name
    ∙ ap front (pragma_pieces (codes "next_state") w.next (p3 ++ R) next_key (next_added w f r).name)
    ∙ ap (λ (ps : List Piece). front (second ps)) (pragma_pieces (codes "clock") f.clock.text R clock_key (clock_said w f r))

-- what the text is cut into
record IsText (w : Words) (f : Fsm) : Type 0 where
  items : (tokens_in (text w f)).items ≡ placed first_line (layout w f)
  pragmas : (tokens_in (text w f)).pragmas ≡ placed_pragmas w f.clock.text
  cut : refusal_in (text w f) ≡ None

-- with the entity as an outline
layout_is : (w : Words) (f : Fsm) → layout w f ≡ whole_layout w (outline f.name f.ports) f.body f.clock.text
unfolding layout
layout_is w f =
    let P : List Written = step_layout w f.body ++ (clock_layout w f.clock.text ++ last_layout) in
    ap (λ (n : List ℕ). entity_layout (outline f.name f.ports) ++ (declarations_layout w n ++ P)) (sym (outline_name f.name (map declared (grouped f.ports))))

layout_cut : (w : Words) (f : Fsm) → Ready w f → IsCut first_line (pieces (text_of (layout w f))) (placed first_line (layout w f))
unfolding layout
layout_cut w f r =
    cut_again vhdl false first_line (layout w f)
    (fit_layout w (outline f.name f.ports) f.name f.body f.clock.text (entity_can w f r) (name_said w f r) (clock_said w f r) (are_said w f r) (body_said w f r) (slice_index [] 0))

is_text : (w : Words) (f : Fsm) → Ready w f → IsText w f
unfolding tokens_in refusal_in
is_text w f r =
    let c = layout_cut w f r in
    let same = text_pieces w f r in
    record {
      items = ap (λ (ps : List Piece). tokens_from 1 ps) same ∙ c.tokens_are;
      pragmas = ap (λ (ps : List Piece). pragmas_from 1 ps) same ∙ ap (λ (ps : List Pragma). record { key = codes "current_state"; name = w.current; line = 1 } ∷ record { key = codes "next_state"; name = w.next; line = 2 } ∷ record { key = codes "clock"; name = f.clock.text; line = 3 } ∷ ps) c.pragmas;
      cut = ap (λ (ps : List Piece). refusal_from 1 ps) same ∙ c.refusal;
    }

-- ---- the sentence

outline_entries : (w : Words) (f : Fsm) → Ready w f → EntriesNew (map port_entry ((outline f.name f.ports).first ∷ (outline f.name f.ports).others) ++ map name_entry (further_texts w)) uncounted
outline_entries w f r =
    let ds = map declared (grouped f.ports) in
    subst (λ ps. EntriesNew (map port_entry ps ++ map name_entry (further_texts w)) uncounted) (sym (outline_ports f.name ds (some_groups f.ports (sound_ports w f r).some))) (entries_new w f r)

read_whole : (w : Words) (f : Fsm) → Ready w f → (at : At) × AnswersAll fsm (start (placed first_line (layout w f))) (Ok (machine_of w f, at))
read_whole w f r =
    let o = outline f.name f.ports in
    let s = spell_machine w o f.body f.clock.text DEPTH first_line uncounted refl refl refl refl (outline_entries w f r) (some_states f w r.checked r.words) r.limits.nested r.checked.listed in
    let end : At = record { state = s.behind; rest = [] } in
    let a = accepts_all (machine DEPTH) (machine_at w o f.body f.clock.text first_line) (placed first_line (whole_layout w o f.body f.clock.text)) s.behind s.spelled in
    let Right : List Written → Type 0 = λ ws. AnswersAll fsm (start (placed first_line ws)) (Ok (machine_of w f, end)) in
    (end, subst Right (sym (layout_is w f)) a)

-- what was read is one
abbrev told : Entity × At → Outcome Entity → Entity × At
told x (Ok y) = y
told x (Err r) = x

same_read : (x y : Entity × At) → ◌≡◌ {A = Outcome Entity} (Ok x) (Ok y) → x ≡ y
same_read x y e = ap (λ (o : Outcome Entity). told x o) e

none_is_some : (k : ℕ) → None ≡ Some k → ⊥
none_is_some k e = absurd cc

-- no assignment is one too many
few_assigned : (w : Words) (f : Fsm) → Ready w f → (tokens : Tokens) → tokens.items ≡ placed first_line (layout w f) → tokens.pragmas ≡ placed_pragmas w f.clock.text → PassesBefore tokens 0 → ⊥
unfolding layout
few_assigned w f r tokens items pragmas h =
    let p = h.1 in
    let o = outline f.name f.ports in
    let A : List Written = declarations_layout w f.name ++ (step_layout w f.body ++ (clock_layout w f.clock.text ++ last_layout)) in
    let k = line_of first_line (entity_layout o) in
    let split : tokens.items ≡ placed first_line (entity_layout o) ++ placed k A = items ∙ placed_append first_line (entity_layout o) A in
    let Y : Outcome Entity = Ok (p.front, p.behind) in
    let read : Answers (entity DEPTH) (record { state = uncounted; rest = placed first_line (entity_layout o) ++ placed k A }) Y =
    subst (λ (ts : List PlacedToken). Accepts (entity DEPTH) (start ts) p.front p.behind) split p.read in
    let is : Y ≡ Ok (placed_entity first_line o, record { state = with_ports (o.first ∷ o.others) uncounted; rest = placed k A }) =
    entity_is_read_in_front DEPTH o first_line (placed k A) (omega arith) (entity_can w f r) Y read in
    let own : Entity × At = (p.front, p.behind) in
    let written : Entity × At = (placed_entity first_line o, record { state = with_ports (o.first ∷ o.others) uncounted; rest = placed k A }) in
    let both : own ≡ written = same_read own written is in
    let front : p.front ≡ placed_entity first_line o = ap (λ (x : Entity × At). x.0) both in
    let rest : p.behind.rest ≡ placed k A = ap (λ (x : Entity × At). x.1.rest) both in
    let known : counted_in tokens p.front ≡ counted_here w first_line f =
    ap (λ (e : Entity). counted_symbols e (named_by (codes "next_state") tokens.pragmas)) front ∙ ap (λ (ps : List Pragma). counted_symbols (placed_entity first_line o) (named_by (codes "next_state") ps)) pragmas in
    let sound = sound_ports w f r in
    let own = are_own w first_line f sound (added_no_port f 110 w.next (next_added w f r)) in
    let current = current_uncounted w first_line f sound (added_no_port f 99 w.current (current_added w f r)) (differ w f r) in
    let none = never_overfull (counted_here w first_line f) w f k own r.checked.reads current r.limits.assigned in
    let place : overfull (counted_here w first_line f) [] (placed k A) ≡ Some h.0 =
    ap (λ (known : List Symbol). overfull known [] (placed k A)) (sym known) ∙ ap (λ (ts : List PlacedToken). overfull (counted_in tokens p.front) [] ts) (sym rest) ∙ p.place in
    none_is_some h.0 (sym none ∙ place) where
      differ : (w : Words) (f : Fsm) → Ready w f → w.current ≡ w.next → ⊥
      differ w f r e = (two_signals w f r).0 0 w.next (omega arith) e

pub written_is_a_sentence : WrittenIsASentence
written_is_a_sentence f w checked named words limits =
    let r : Ready w f = record { checked = checked; named = named; words = words; limits = limits } in
    let t = is_text w f r in
    let a = read_whole w f r in
    record {
      cut = t.cut;
      machine = record {
        end = a.0;
        read = subst (λ (ts : List PlacedToken). AnswersAll fsm (start ts) (Ok (machine_of w f, a.0))) (sym t.items) a.1;
        few = few_assigned w f r (tokens_in (text w f)) t.items t.pragmas;
      };
      pragmas = t.pragmas;
    }
