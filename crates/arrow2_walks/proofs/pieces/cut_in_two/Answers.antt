use Rattle.std.proofs.Common.{map, arith}
use Rattle.std.proofs.lemmas.List.{length-map}
use Rattle.arrow2_walks.specs.Cuts.{piece_of}
use Rattle.arrow2_walks.proofs.Cuts.{cut_pieces, cut_counted, paid-cut}
use Rattle.arrow2_walks.proofs.pieces.cut_in_two.Goals as goal

pub returns-clause-ok : goal.returns-clause-ok
returns-clause-ok c =
    cut_pieces c.args.bitmaps.now.items c.insert.new.self.items c.args.p c.args.i c.index.result.now c.in_ok-whole.whole c.index_mut.result.now c.index_mut-2.result.now c.keep_front.new.bitmap c.keep_back.new.bitmap
    c.requires.below c.index.ensures c.in_ok-whole.ensures.cases c.in_ok-insert.ensures.items c.index_mut.ensures.value c.keep_front.ensures.piece c.index_mut-2.ensures.value c.keep_back.ensures.piece

pub returns-clause-reads : goal.returns-clause-reads
returns-clause-reads c =
    cut_counted c.args.bitmaps.now.items c.insert.new.self.items c.args.p c.args.i c.index.result.now c.in_ok-whole.whole c.index_mut.result.now c.index_mut-2.result.now c.keep_front.new.bitmap c.args.reads.now c.keep_front.new.reads c.keep_back.new.reads
    c.requires.below c.index.ensures c.in_ok-whole.ensures.cases c.in_ok-insert.ensures.items c.index_mut.ensures.value c.keep_front.ensures.reads c.index_mut-2.ensures.value c.keep_back.ensures.reads

pub returns-clause-paid : goal.returns-clause-paid
returns-clause-paid c = λ paid. rw (returns-clause-ok c) (paid-cut (map piece_of c.args.bitmaps.now.items) c.args.p c.args.i c.args.reads.now c.keep_back.new.reads (omega (arith, length-map c.args.bitmaps.now.items piece_of, c.requires.below)) c.requires.inside (returns-clause-reads c) paid)
