use Rattle.std.proofs.Common.{◌≡◌, ◌^◌, ℕ, Bool, List, length, map, ap, ◌∙◌}
use Rattle.std.proofs.lemmas.List.Elements.{All-same}
use Rattle.fsm_machine.specs.MachineOf.{up}
use Rattle.fsm_walk.specs.Words.{word}
use Rattle.fsm_walk.specs.Reads.{count_of}
use Rattle.fmi_min.specs.Vectors.{picked}
use Rattle.fmi_min.specs.Table.{words_read}
use Rattle.fmi_min.proofs.Telling.{words_over}
use Rattle.fmi_min.proofs.table.table_of.Goals as goal

pub rows-requires : goal.rows-requires
rows-requires c =
    c.deref.ensures.value ∙ c.in_ok-words.ensures
    ∙ ap (λ (n : ℕ). map (word c.args.marks.now) (up 0 n)) (c.vector_count.ensures ∙ ap (λ (n : ℕ). 2 ^ n) c.count.ensures)
    ∙ ap (λ (marks : List Bool). map (word marks) (up 0 (2 ^ count_of marks))) c.requires.marks

pub vectors-requires : goal.vectors-requires
vectors-requires c =
    let f = c.args.machine.now in
    let same =
    c.deref-2.ensures.value ∙ c.in_ok-words.ensures
    ∙ ap (λ (n : ℕ). map (word c.args.marks.now) (up 0 n)) (c.vector_count.ensures ∙ ap (λ (n : ℕ). 2 ^ n) c.count.ensures)
    ∙ ap (λ (marks : List Bool). map (word marks) (up 0 (2 ^ count_of marks))) c.requires.marks in
    All-same (λ (w : List Bool). length w ≡ length f.ports) c.deref-2.result.now (words_read f) same (words_over f)

pub returns-clause-vectors : goal.returns-clause-vectors
returns-clause-vectors c =
    let f = c.args.machine.now in
    c.in_ok-vectors.ensures
    ∙ ap (λ (ws : List (List Bool)). map (picked f.clock f.ports) ws)
    (c.deref-2.ensures.value ∙ c.in_ok-words.ensures
    ∙ ap (λ (n : ℕ). map (word c.args.marks.now) (up 0 n)) (c.vector_count.ensures ∙ ap (λ (n : ℕ). 2 ^ n) c.count.ensures)
    ∙ ap (λ (marks : List Bool). map (word marks) (up 0 (2 ^ count_of marks))) c.requires.marks)
