use Rattle.std.proofs.Common.{refl}
use Rattle.tool_drive.specs.Outside.{outside}
use Rattle.flow_run.proofs.Words.{line_by, headline_at, no_headline, free_at, none_free, flow_unread, answer_at, none_answered, within_bounds, fitting, run_at, gen_headline_at, spared_at, gen_free_at, never_run, no_gen_headline, no_words_spared, no_gen_free}
use Rattle.flow_run.proofs.top.alliance_main.Goals as goal

pub returns-in-Ok-clause-headline : goal.returns-in-Ok-clause-headline
returns-in-Ok-clause-headline g c =
    headline_at c.args.words.now c.in-Ok.command (outside (g.S.Shelf.seen c.args.shelf.now) (g.T.Sink.seen c.args.out.now)) (outside (g.S.Shelf.seen c.run.new.shelf) (g.T.Sink.seen c.run.new.out))
    c.run.result c.in-Ok.ensures.ok c.run.ensures.cause

pub returns-in-Ok-clause-lays : goal.returns-in-Ok-clause-lays
returns-in-Ok-clause-lays g c =
    free_at c.reading_law.ensures c.args.words.now c.in-Ok.command (outside (g.S.Shelf.seen c.args.shelf.now) (g.T.Sink.seen c.args.out.now)) (outside (g.S.Shelf.seen c.run.new.shelf) (g.T.Sink.seen c.run.new.out))
    c.run.result c.in-Ok.ensures.ok c.run.ensures.complete

pub returns-in-Ok-clause-line : goal.returns-in-Ok-clause-line
returns-in-Ok-clause-line g c lined =
    line_by c.words_law.ensures c.args.words.now c.in-Ok.command c.run.result (g.T.Sink.seen c.args.out.now) (g.T.Sink.seen c.run.new.out)
    c.in-Ok.ensures.ok c.run.ensures.never_usage (c.run.ensures.line lined)

pub returns-in-Err-clause-complete : goal.returns-in-Err-clause-complete
returns-in-Err-clause-complete g c =
    flow_unread c.args.words.now c.in-Err.error (outside (g.S.Shelf.seen c.args.shelf.now) (g.T.Sink.seen c.args.out.now)) (outside (g.S.Shelf.seen c.args.shelf.now) (g.T.Sink.seen c.refuse_words.new.out))
    c.refuse_words.result c.refuse_words.ensures.status c.in-Err.ensures.usage

pub returns-in-Err-clause-headline : goal.returns-in-Err-clause-headline
returns-in-Err-clause-headline g c =
    no_headline c.args.words.now c.in-Err.error (outside (g.S.Shelf.seen c.args.shelf.now) (g.T.Sink.seen c.args.out.now)) (outside (g.S.Shelf.seen c.args.shelf.now) (g.T.Sink.seen c.refuse_words.new.out))
    c.refuse_words.result c.refuse_words.ensures.status

pub returns-in-Err-clause-lays : goal.returns-in-Err-clause-lays
returns-in-Err-clause-lays g c =
    none_free c.args.words.now c.in-Err.error (outside (g.S.Shelf.seen c.args.shelf.now) (g.T.Sink.seen c.args.out.now)) (outside (g.S.Shelf.seen c.args.shelf.now) (g.T.Sink.seen c.refuse_words.new.out))
    c.refuse_words.result c.refuse_words.ensures.status c.in-Err.ensures.usage

pub returns-in-Err-clause-answer : goal.returns-in-Err-clause-answer
returns-in-Err-clause-answer g c =
    none_answered c.args.words.now c.in-Err.error (outside (g.S.Shelf.seen c.args.shelf.now) (g.T.Sink.seen c.args.out.now)) (outside (g.S.Shelf.seen c.args.shelf.now) (g.T.Sink.seen c.refuse_words.new.out))
    c.refuse_words.result refl c.refuse_words.ensures.status c.in-Err.ensures.usage

pub returns-in-Ok-clause-answer : goal.returns-in-Ok-clause-answer
returns-in-Ok-clause-answer g c =
    answer_at c.args.words.now c.in-Ok.command (outside (g.S.Shelf.seen c.args.shelf.now) (g.T.Sink.seen c.args.out.now)) (outside (g.S.Shelf.seen c.run.new.shelf) (g.T.Sink.seen c.run.new.out))
    c.run.result c.in-Ok.ensures.ok c.run.ensures.answer

pub run-requires-clause-bounds : goal.run-requires-clause-bounds
run-requires-clause-bounds g c = within_bounds c.words_are_within_bounds.ensures.flows c.args.words.now c.in-Ok.command c.in-Ok.ensures.ok

pub run-requires-clause-fitting : goal.run-requires-clause-fitting
run-requires-clause-fitting g c = fitting c.words_are_within_bounds.ensures.gens c.args.words.now c.in-Ok.command c.in-Ok.ensures.ok

pub returns-in-Ok-clause-run : goal.returns-in-Ok-clause-run
returns-in-Ok-clause-run g c =
    run_at c.args.words.now c.in-Ok.command (outside (g.S.Shelf.seen c.args.shelf.now) (g.T.Sink.seen c.args.out.now)) (outside (g.S.Shelf.seen c.run.new.shelf) (g.T.Sink.seen c.run.new.out))
    c.run.result c.in-Ok.ensures.ok c.run.ensures.run

pub returns-in-Ok-clause-generated : goal.returns-in-Ok-clause-generated
returns-in-Ok-clause-generated g c =
    gen_headline_at c.words_are_within_bounds.ensures.gens c.gen_law.ensures.headline c.args.words.now c.in-Ok.command (outside (g.S.Shelf.seen c.args.shelf.now) (g.T.Sink.seen c.args.out.now)) (outside (g.S.Shelf.seen c.run.new.shelf) (g.T.Sink.seen c.run.new.out))
    c.run.result c.in-Ok.ensures.ok c.run.ensures.run

pub returns-in-Ok-clause-spared : goal.returns-in-Ok-clause-spared
returns-in-Ok-clause-spared g c =
    spared_at c.words_are_within_bounds.ensures.gens c.gen_law.ensures.spared c.args.words.now c.in-Ok.command (outside (g.S.Shelf.seen c.args.shelf.now) (g.T.Sink.seen c.args.out.now)) (outside (g.S.Shelf.seen c.run.new.shelf) (g.T.Sink.seen c.run.new.out))
    c.run.result c.in-Ok.ensures.ok c.run.ensures.run

pub returns-in-Ok-clause-generates : goal.returns-in-Ok-clause-generates
returns-in-Ok-clause-generates g c =
    gen_free_at c.words_are_within_bounds.ensures.gens c.gen_law.ensures.free c.args.words.now c.in-Ok.command (outside (g.S.Shelf.seen c.args.shelf.now) (g.T.Sink.seen c.args.out.now)) (outside (g.S.Shelf.seen c.run.new.shelf) (g.T.Sink.seen c.run.new.out))
    c.run.result c.in-Ok.ensures.ok c.run.ensures.run

pub returns-in-Err-clause-run : goal.returns-in-Err-clause-run
returns-in-Err-clause-run g c =
    never_run c.args.words.now c.in-Err.error (outside (g.S.Shelf.seen c.args.shelf.now) (g.T.Sink.seen c.args.out.now)) (outside (g.S.Shelf.seen c.args.shelf.now) (g.T.Sink.seen c.refuse_words.new.out))
    c.refuse_words.result refl c.refuse_words.ensures.status c.in-Err.ensures.usage

pub returns-in-Err-clause-generated : goal.returns-in-Err-clause-generated
returns-in-Err-clause-generated g c =
    no_gen_headline c.args.words.now c.in-Err.error (outside (g.S.Shelf.seen c.args.shelf.now) (g.T.Sink.seen c.args.out.now)) (outside (g.S.Shelf.seen c.args.shelf.now) (g.T.Sink.seen c.refuse_words.new.out))
    c.refuse_words.result c.refuse_words.ensures.status

pub returns-in-Err-clause-spared : goal.returns-in-Err-clause-spared
returns-in-Err-clause-spared g c =
    no_words_spared c.args.words.now c.in-Err.error (outside (g.S.Shelf.seen c.args.shelf.now) (g.T.Sink.seen c.args.out.now)) c.refuse_words.result c.refuse_words.ensures.status

pub returns-in-Err-clause-generates : goal.returns-in-Err-clause-generates
returns-in-Err-clause-generates g c =
    no_gen_free c.args.words.now c.in-Err.error (outside (g.S.Shelf.seen c.args.shelf.now) (g.T.Sink.seen c.args.out.now)) (outside (g.S.Shelf.seen c.args.shelf.now) (g.T.Sink.seen c.refuse_words.new.out))
    c.refuse_words.result c.refuse_words.ensures.status c.in-Err.ensures.usage
