use Rattle.std.proofs.Common.{append_assoc}
use Rattle.segment_file.specs.Heads.{fields_bytes}
use Rattle.segment_file.proofs.fields.HeadFields.write.Goals as goal

pub returns : goal.returns
unfolding fields_bytes
returns c =
    rw (
      c.in_ok-put_u32-4.ensures.ok,
      c.in_ok-put_u32-3.ensures.ok,
      c.in_ok-put_u32-2.ensures.ok,
      c.in_ok-put_u32.ensures.ok,
      c.in_ok-put_u16.ensures.ok,
      c.in_ok-put_u8-2.ensures.ok,
      c.in_ok-put_u8.ensures.ok,
      c.in_ok-put_slice.ensures.ok,
      c.in_ok-out.ensures.items,
      c.magic_of.ensures,
    )
    (simp append_assoc)
