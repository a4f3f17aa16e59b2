-- Texts computed from the definitions: the pictures of the sheet's record 05 31 70 and of the plan of one room, and the line of a
-- worked record that is refused.
use Rattle.std.specs.Prelude.{[], ◌∷◌, ◌++◌, ◌≡◌, refl}
use Rattle.bits.specs.Bit.{bit_at, bit_in}
use Rattle.record.specs.Walk.{walk, step}
use Rattle.record.specs.Read.{labels_of}
use Rattle.record.specs.Checked.{dec_no_kind, dec_spare, dec_missing, dec_several}
use Rattle.drawing.specs.Drawing.{last_before, first_later}
use Rattle.digits.specs.Ascii.{ascii}
use Rattle.digits.specs.Decimal.{digits_in, decimal}
use Rattle.shapes.specs.Picture.{rooms_drawn, segments_drawn, picture_of}

pub worked_picture : picture_of (0x05 ∷ 0x31 ∷ 0x70 ∷ [])
    ≡ ascii "<svg xmlns=\"http://www.w3.org/2000/svg\" viewBox=\"0 0 240 240\" font-family=\"sans-serif\" text-anchor=\"middle\">\n"
    ++ ascii "<style>rect{fill:#eaf0f6}text{fill:#16222e;font-weight:bold}tspan{fill:#5f7588;font-weight:normal}"
    ++ ascii "line{stroke-width:3}.v{stroke:#b5482f}.h{stroke:#2f6ea5}.o{fill:#fff;stroke:#16222e;stroke-width:3}</style>\n"
    ++ ascii "<rect class=\"o\" x=\"20\" y=\"20\" width=\"200\" height=\"200\"/>\n"
    ++ ascii "<rect x=\"24\" y=\"184\" width=\"112\" height=\"32\"/>\n"
    ++ ascii "<text x=\"80\" y=\"198\" font-size=\"13\">4<tspan x=\"80\" y=\"211\">1</tspan></text>\n"
    ++ ascii "<rect x=\"24\" y=\"24\" width=\"72\" height=\"152\"/>\n"
    ++ ascii "<text x=\"60\" y=\"96\" font-size=\"26\">1<tspan x=\"60\" y=\"122\">2</tspan></text>\n"
    ++ ascii "<rect x=\"104\" y=\"64\" width=\"32\" height=\"112\"/>\n"
    ++ ascii "<text x=\"120\" y=\"118\" font-size=\"13\">3<tspan x=\"120\" y=\"131\">3</tspan></text>\n"
    ++ ascii "<rect x=\"144\" y=\"64\" width=\"72\" height=\"152\"/>\n"
    ++ ascii "<text x=\"180\" y=\"136\" font-size=\"26\">5<tspan x=\"180\" y=\"162\">4</tspan></text>\n"
    ++ ascii "<rect x=\"104\" y=\"24\" width=\"112\" height=\"32\"/>\n"
    ++ ascii "<text x=\"160\" y=\"38\" font-size=\"13\">2<tspan x=\"160\" y=\"51\">5</tspan></text>\n"
    ++ ascii "<line class=\"h\" x1=\"26\" y1=\"180\" x2=\"134\" y2=\"180\"/>\n"
    ++ ascii "<line class=\"v\" x1=\"100\" y1=\"26\" x2=\"100\" y2=\"174\"/>\n"
    ++ ascii "<line class=\"v\" x1=\"140\" y1=\"66\" x2=\"140\" y2=\"214\"/>\n"
    ++ ascii "<line class=\"h\" x1=\"106\" y1=\"60\" x2=\"214\" y2=\"60\"/>\n"
    ++ ascii "</svg>\n"
unfolding digits_in decimal rooms_drawn segments_drawn last_before first_later labels_of
    dec_no_kind dec_spare dec_missing dec_several walk step bit_at bit_in
worked_picture = refl

pub worked_room : picture_of (0x01 ∷ [])
    ≡ ascii "<svg xmlns=\"http://www.w3.org/2000/svg\" viewBox=\"0 0 80 80\" font-family=\"sans-serif\" text-anchor=\"middle\">\n"
    ++ ascii "<style>rect{fill:#eaf0f6}text{fill:#16222e;font-weight:bold}tspan{fill:#5f7588;font-weight:normal}"
    ++ ascii "line{stroke-width:3}.v{stroke:#b5482f}.h{stroke:#2f6ea5}.o{fill:#fff;stroke:#16222e;stroke-width:3}</style>\n"
    ++ ascii "<rect class=\"o\" x=\"20\" y=\"20\" width=\"40\" height=\"40\"/>\n"
    ++ ascii "<rect x=\"24\" y=\"24\" width=\"32\" height=\"32\"/>\n"
    ++ ascii "<text x=\"40\" y=\"38\" font-size=\"13\">1<tspan x=\"40\" y=\"51\">1</tspan></text>\n"
    ++ ascii "</svg>\n"
unfolding digits_in decimal rooms_drawn segments_drawn last_before first_later labels_of
    dec_no_kind dec_spare dec_missing dec_several walk step bit_at bit_in
worked_room = refl

pub worked_refusal : picture_of (0x02 ∷ 0xC1 ∷ []) ≡ ascii "refused 14\n"
unfolding digits_in decimal rooms_drawn segments_drawn last_before first_later labels_of
    dec_no_kind dec_spare dec_missing dec_several walk step bit_at bit_in
worked_refusal = refl
