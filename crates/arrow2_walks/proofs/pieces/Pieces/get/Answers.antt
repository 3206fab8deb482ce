use Rattle.std.proofs.Common.{◌∙◌, length, ap, sym, arith}
use Rattle.std.proofs.lemmas.List.{length-map}
use Rattle.arrow2_walks.specs.Cuts.{CutPieces, piece_of, piece_at}
use Rattle.arrow2_walks.proofs.Cuts.{piece_is}
use Rattle.arrow2_walks.proofs.pieces.Pieces.get.Goals as goal

pub index-requires : goal.index-requires
index-requires c =
    let seen = ap (λ (p : CutPieces). length p.pieces) c.self.view_is in
    let all = length-map c.self.inside.bitmaps.items piece_of in
    omega (arith, seen, all, c.self.inside.bitmaps.ok.0, c.requires.below)

pub returns : goal.returns
returns c =
    let seen = ap (λ (p : CutPieces). piece_at p.pieces c.args.p) c.self.view_is in
    let size = ap (λ (p : CutPieces). length p.pieces) c.self.view_is in
    let all = length-map c.self.inside.bitmaps.items piece_of in
    sym (piece_is c.self.inside.bitmaps.items c.args.p c.index.result.now (omega (arith, size, all, c.requires.below)) c.index.ensures) ∙ seen
