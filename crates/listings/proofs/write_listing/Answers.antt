-- `write_listing`: the tests in their order, then the text from place 0 on. Assumes nothing.
use native.Mathlib.Omega.{arith}
use mathlib.Core.Path.{refl}
use Rattle.listings.proofs.Laws.Calls.{refused_1, refused_3, sizes-within, written, within}
use Rattle.listings.proofs.Laws.Lines.{listing-room, refusal-room}
use Rattle.listings.proofs.write_listing.Goals as goal

pub returns-then-not-sizes_fit : goal.returns-then-not-sizes_fit
returns-then-not-sizes_fit c =
    let e = refused_1 _ _ _ _ _ c.sizes_fit.ensures _ c.if-not-sizes_fit.true refl in
    rw c.at.ensures (e.0, e.1, tt)

pub returns-then-out-lt8192 : goal.returns-then-out-lt8192
returns-then-out-lt8192 c =
    let e = refused_3 _ _ _ c.args.out.now _ c.sizes_fit.ensures c.if-not-sizes_fit.false _ (omega arith) refl in
    rw c.at-then-out-lt8192.ensures (e.0, e.1, tt)

pub put_refusal-requires : goal.put_refusal-requires
put_refusal-requires c = refusal-room _ _ _ c.if-out-lt8192.false

pub put_listing-requires : goal.put_listing-requires
put_listing-requires c =
    let e = sizes-within _ _ _ c.sizes_fit.ensures c.if-not-sizes_fit.false in
    listing-room _ _ _ _ e.0 e.1 c.if-out-lt8192.false

pub returns-in-Err : goal.returns-in-Err
returns-in-Err c =
    let wrote = c.put_refusal.ensures in
    let e = written _ _ _ _ _ c.sizes_fit.ensures c.if-not-sizes_fit.false _ _ c.if-out-lt8192.false wrote in
    rw c.in-Err.is (e.0, e.1, within _ _ _ _ wrote)

pub returns-in-Ok : goal.returns-in-Ok
returns-in-Ok c =
    let wrote = c.put_listing.ensures in
    let e = written _ _ _ _ _ c.sizes_fit.ensures c.if-not-sizes_fit.false _ _ c.if-out-lt8192.false wrote in
    rw c.in-Ok.is (e.0, e.1, within _ _ _ _ wrote)
