use Rattle.std.proofs.Common.{ℕ, [], ◌∷◌, subst}
use Rattle.std.proofs.KnownBytes.{Appends-trans}
use Rattle.std.proofs.lemmas.Result.{on_ok_weaker}
use Rattle.std.specs.Io.KnownBytes.{Appends}
use Rattle.byteorder.specs.Endian.{little_bytes}
use Rattle.listing_tables.proofs.before_fault.write_header.Goals as goal

pub returns : goal.returns
returns g c =
    let at = g.W.Write.contents in
    let commands = subst (λ (n : ℕ). Appends (at c.write_u24.new.self) (at c.write_u32-3.new.self) (little_bytes 4 n))
    c.in_ok-length_of.ensures c.in_ok-write_u32-3.ensures.bytes in
    let attachments = subst (λ (n : ℕ). Appends (at c.write_u32-3.new.self) (at c.write_u32-4.new.self) (little_bytes 4 n))
    c.in_ok-length_of-2.ensures c.in_ok-write_u32-4.ensures.bytes in
    let direction = subst (λ (n : ℕ). Appends (at c.write_u32-2.new.self) (at c.write_u8.new.self) (n ∷ []))
    c.direction_number.ensures c.in_ok-write_u8.ensures.bytes in
    let names = Appends-trans _ _ _ _ _ c.in_ok-write_u64.ensures.bytes
    (Appends-trans _ _ _ _ _ c.in_ok-write_u32.ensures.bytes c.in_ok-write_u32-2.ensures.bytes) in
    let begin = Appends-trans _ _ _ _ _ names (Appends-trans _ _ _ _ _ direction c.in_ok-write_u24.ensures.bytes) in
    let lengths = Appends-trans _ _ _ _ _ commands attachments in
    on_ok_weaker c.write_u32-5.result
    (λ last. Appends-trans _ _ _ _ _ begin (Appends-trans _ _ _ _ _ lengths last)) c.write_u32-5.ensures.bytes
